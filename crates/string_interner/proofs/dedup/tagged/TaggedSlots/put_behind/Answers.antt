use Rattle.std.proofs.Common.{◌≡◌, ℕ, ◌-◌, ◌<◌, inr, None, Some, refl, sym, subst, length, get_or, set, arith, ap, ◌∙◌, false}
use Rattle.string_interner.specs.Probe.{Follows, Misses, Passes}
use Rattle.string_interner.specs.Tagged.{HasAnotherTag, code_at, symbol_in, symbols_in, tagged_layout}
use Rattle.std.proofs.lemmas.List.{length-map}
use Rattle.string_interner.proofs.Lemmas.TaggedSlots.SymbolsIn.{symbols_in-at}
use Rattle.string_interner.proofs.Lemmas.Index.ProbeLoop.{empty_from, none_tells, some_from, HasAnotherTag-misses, Stands-start, Stands-passed, Stands-missed, Stands-free, Stands-ends}
use Rattle.string_interner.proofs.Lemmas.Table.IsCoded.{Fills-free}
use Rattle.string_interner.proofs.dedup.tagged.TaggedSlots.put_behind.Goals as goal
use Rattle.string_interner.proofs.dedup.tagged.TaggedSlots.put_behind.Goals.{then-reached-count, else-reached-count+else-is_none}

pub loop-step-init : goal.loop-step-init
loop-step-init g c = record { stands = Stands-start _ _ _ c.requires.home c.requires.free; same = refl }

pub returns-then-is_none : goal.returns-then-is_none
returns-then-is_none g c =
    let inv = c.loop-step.invariant in let tagged = c.args.self.now in let same = inv.same in let slots = symbols_in tagged in let m = length-map tagged symbol_in in
    let n : c.len-count.result ≡ length slots = c.len-count.ensures in let o = ap length same in
    let passed = rw same at c.pass-reached.ensures.passed in
    let e = symbols_in-at tagged c.pass-reached.result None
    (ap (λ xs. get_or xs c.pass-reached.result None) (sym same) ∙ sym c.item_at.ensures ∙ empty_from c.item_at.result c.if-is_none.ensures) in
    let p : Passes (λ _. false) slots c.loop-step.at c.pass-reached.result = record {
      ordered = c.pass-reached.ensures.from;
      within = omega arith;
      missed = λ k a b. HasAnotherTag-misses _ tagged 0 (none_tells tagged 0) k (omega arith) (passed k a b);
    } in
    let s = Stands-passed _ slots _ c.requires.home c.requires.free _ _ inv.stands c.pass-reached.result p in
    Fills-free tagged_layout tagged c.set.new.self c.args.home c.pass-reached.result c.args.symbol c.args.code
    (Stands-free _ slots _ c.requires.home c.requires.free _ _ s e)
    (c.set.ensures.slots ∙ ap (λ xs. set (symbols_in xs) c.pass-reached.result (Some c.args.symbol)) same) c.set.ensures.stored
    (λ k ne. c.set.ensures.others k ne ∙ ap (λ xs. code_at xs k) same)

pub loop-step-preserved : goal.loop-step-preserved
loop-step-preserved g c =
    let inv = c.loop-step.invariant in let tagged = c.args.self.now in let same = inv.same in let slots = symbols_in tagged in let m = length-map tagged symbol_in in
    let n : c.len-count.result ≡ length slots = c.len-count.ensures in let o = ap length same in
    let passed = rw same at c.pass-reached.ensures.passed in
    let r = inv.stands.walked.in_range in
    let misses : (k : ℕ) → k < length tagged → HasAnotherTag tagged 0 k → Misses (λ _. false) slots k = HasAnotherTag-misses (λ _. false) tagged 0 (none_tells tagged 0) in
    record {
      stands = elim c.if-reached-count.branch [
        | then-reached-count w ↦
            let last = length slots - 1 in
            let p : Passes (λ _. false) slots c.loop-step.at last = record { ordered = omega arith; within = omega arith; missed = λ k a b. misses k (omega arith) (passed k a (omega arith)) } in
            let s = Stands-passed _ slots _ c.requires.home c.requires.free _ _ inv.stands last p in
            rw w.at-is (Stands-missed _ slots _ c.requires.home c.requires.free _ _ s 0 (misses last (omega arith) (passed last (omega arith) (omega arith))) (record { within = omega arith; one_on = inr (refl, omega arith) }))
        | else-reached-count+else-is_none w ↦
            let p : Passes (λ _. false) slots c.loop-step.at c.pass-reached.result = record { ordered = c.pass-reached.ensures.from; within = omega arith; missed = λ k a b. misses k (omega arith) (passed k a b) } in
            let s = Stands-passed _ slots _ c.requires.home c.requires.free _ _ inv.stands c.pass-reached.result p in
            let after : Follows (length slots) c.pass-reached.result w.slot_after-at.result = subst (λ n. Follows n c.pass-reached.result w.slot_after-at.result) c.len-count.ensures w.slot_after-at.ensures in
            let here = some_from w.item_at.result w.if-is_none.ensures in
            let filled = symbols_in-at tagged c.pass-reached.result (Some here.0) (ap (λ xs. get_or xs c.pass-reached.result None) (sym same) ∙ sym w.item_at.ensures ∙ here.1) in
            rw w.at-is (Stands-missed _ slots _ c.requires.home c.requires.free _ _ s _ (record { symbol = here.0.symbol; filled = filled; fails = refl }) after)
      ];
      same = inv.same;
    }

pub returns : goal.returns
returns g c =
    let inv = c.loop-step.invariant in let n : c.len-count.result ≡ length (symbols_in c.args.self.now) = c.len-count.ensures in
    absurd (Stands-ends _ (symbols_in c.args.self.now) _ c.requires.home c.requires.free _ _ inv.stands (omega arith))
