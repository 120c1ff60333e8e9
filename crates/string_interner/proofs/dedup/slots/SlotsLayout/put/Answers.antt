use Rattle.std.proofs.Common.{sym, subst, ◌≡◌, None, true, length, get_or, arith, ap, refl, ◌∙◌}
use Rattle.std.specs.Option.{is_some}
use Rattle.string_interner.specs.Probe.{Follows}
use Rattle.string_interner.proofs.Lemmas.Index.ProbeLoop.{puts_at, passes, comes_to_empty, empty_from}
use Rattle.string_interner.proofs.dedup.slots.SlotsLayout.put.Goals as goal

pub returns-then-is_none : goal.returns-then-is_none
returns-then-is_none g c =
    let inv = c.loop-step.invariant in let slots = c.args.self.now in
    let n : c.len-count.result ≡ length slots = c.len-count.ensures in
    let e = ap (λ xs. get_or xs c.loop-step.at None) (sym inv.same) ∙ sym c.symbol_at.ensures ∙ empty_from c.symbol_at.result c.if-is_none.ensures in
    rw (c.set.ensures.slots, inv.same) (record { slot = puts_at slots _ c.requires.home _ _ _ inv.walked (omega arith) e; stored = refl; others = λ k ne. refl })

pub loop-step-preserved : goal.loop-step-preserved
loop-step-preserved g c =
    let inv = c.loop-step.invariant in let slots = c.args.self.now in
    let after : Follows (length slots) c.loop-step.at c.slot_after-at.result = subst (λ n. Follows n c.loop-step.at c.slot_after-at.result) c.len-count.ensures c.slot_after-at.ensures in
    let n : c.len-count.result ≡ length slots = c.len-count.ensures in
    let e : is_some (get_or slots c.loop-step.at None) ≡ true =
    ap is_some (ap (λ xs. get_or xs c.loop-step.at None) (sym inv.same) ∙ sym c.symbol_at.ensures) ∙ c.if-is_none.ensures in
    record { walked = passes slots _ c.requires.home _ _ _ inv.walked (omega arith) e after.within after.one_on; same = inv.same }

pub returns : goal.returns
returns g c =
    let inv = c.loop-step.invariant in let n : c.len-count.result ≡ length c.args.self.now = c.len-count.ensures in
    absurd (comes_to_empty c.args.self.now _ c.requires.home _ _ inv.walked (omega arith) c.requires.free)
