use Rattle.std.proofs.Common.{◌≡◌, ◌+◌, ◌-◌, ◌≤◌, ◌++◌, length, take, replicate, sym, ap, subst, ◌∙◌, append-nil, arith, rules}
use Rattle.std.specs.Io.{ReadsAtMost}
use Rattle.std.specs.Io.KnownBytes.{Consumes, ReadConsumes}
use Rattle.std.proofs.lemmas.List.{with_items_is, take_all}
use Rattle.std.proofs.Math.Seq.{take-append_seam}
use borrow.Rule.Slice.PartMut.{put_mid, post_of}
use Rattle.dictcol.proofs.Taken.{held-more, length-put}
use Rattle.dictcol.proofs.MendedLeft.{came-held, none-held}
use Rattle.dictcol.proofs.input.mend.Mended.hold_more.Goals as goal
use Rattle.dictcol.proofs.input.mend.Mended.hold_more.Goals.{in-Ok, in-Err}

pub returns-clause-kept : goal.returns-clause-kept
returns-clause-kept g c =
    let old = c.args.self.now.held.items in
    let left = g.R.Read.remaining c.args.self.now.input in
    let now = g.R.Read.remaining c.read-outcome.new.self in
    let all = c.deref_mut.result.now in
    let start = c.len-start.result in
    let room = c.saturating_add.result in
    let part = c.read-outcome.new.buf in
    let count = c.match-outcome.count in
    let long : start ≡ length old = search rules in
    let more : start ≤ room = omega (arith, c.saturating_add.ensures, c.len-start.type_inv) in
    let filled : c.resize.new.self.items ≡ take room old ++ replicate (room - length old) 0 = search rules in
    let front : take start all ≡ old =
    ap (take start) (c.deref_mut.ensures.value ∙ filled ∙ ap (λ it. it ++ replicate (room - length old) 0) (take_all room old (omega (arith, long, more))))
    ∙ ap (λ n. take n (old ++ replicate (room - length old) 0)) long ∙ take-append_seam old (replicate (room - length old) 0) in
    let within : start ≤ length all = search rules in
    let behind = post_of start (length all - start) all in
    let put = with_items_is c.resize.new.self (put_mid start (length all - start) all part)
    (length-put all part start within c.read-outcome.auto.buf ∙ ap length c.deref_mut.ensures.value ∙ sym c.resize.new.self.ok.0) in
    let held = λ (few : count ≤ length part). c.truncate.ensures.items ∙ ap (take (start + count)) put ∙ held-more all part behind start count within few ∙ ap (λ it. it ++ take count part) front in
    elim c.match-outcome.branch [
      | in-Ok w ↦
          let read = subst (λ outcome. ReadConsumes left now outcome part) w.in-Ok.is c.read-outcome.ensures.bytes in
          let few = subst (λ outcome. ReadsAtMost outcome part) w.in-Ok.is c.read-outcome.ensures.bound in
          came-held old c.truncate.new.self.items (take count part) left now (subst (λ n. Consumes left now (take n part)) (sym w.count-is) read.0) (held (omega (arith, few, w.count-is)))
      | in-Err w ↦
          let same = subst (λ outcome. ReadConsumes left now outcome part) w.in-Err.is c.read-outcome.ensures.bytes in
          none-held old c.truncate.new.self.items left now same (held (omega (arith, w.count-is)) ∙ ap (λ n. old ++ take n part) w.count-is ∙ append-nil old)
    ]
