use Rattle.std.proofs.Common.{◌≡◌, ℕ, suc, ◌+◌, ◌-◌, ◌<◌, ◌*◌, ◌^◌, arith, inr, subst, sym}
use Rattle.std.proofs.Math.Nat.{pow-succ'}
use Rattle.std.proofs.lemmas.Nat.{pow_pos}
use Rattle.string_interner.specs.LoadFactorLaws.{above, count_small, grown-le}
use Rattle.string_interner.proofs.dedup.table.growing.least_slot_count.Goals as goal

one : (n : ℕ) → 0 < n → n ≡ n - 1 + 1
one n some = omega arith

pub loop-count-preserved : goal.loop-count-preserved
loop-count-preserved g c =
    let inv = c.loop-count.invariant in let k = inv.allowed.0 in let e = inv.allowed.1 in
    let twice : 2 ^ suc k ≡ 2 * 2 ^ k = pow-succ' 2 k in
    let some = pow_pos k in
    let more : c.in_ok-count.count ≡ 2 * c.loop-count.count = omega (arith, c.in_ok-count.ensures.1) in
    let test = c.loop-count-test.true in
    record {
      some = inv.some;
      small = omega (arith, c.in_ok-count.ensures.0);
      allowed = (suc k, omega arith);
      least = λ m allowed room. grown-le c.loop-count.count c.in_ok-count.count m (inr inv.allowed) (inr (omega arith, more)) allowed
          (above g.L.Layout.layout.holds g.met.L.Layout.layout_laws.load c.loop-count.count m c.args.capacity
          (λ h. let t = c.has_room.ensures.1 (subst (λ n. g.L.Layout.layout.holds c.loop-count.count n) (one c.args.capacity inv.some) h) in cc) room);
    }

pub returns-clause-fits : goal.returns-clause-fits
returns-clause-fits g c =
    let test = c.loop-count-test.false in
    let room = subst (λ n. g.L.Layout.layout.holds c.loop-count.count n) (sym (one c.args.capacity c.loop-count.invariant.some)) (c.has_room.ensures.0 (cc)) in
    g.met.L.Layout.layout_laws.load.wider c.loop-count.count _ c.args.capacity room (count_small c.loop-count.count (inr c.loop-count.invariant.allowed) c.loop-count.invariant.small)
