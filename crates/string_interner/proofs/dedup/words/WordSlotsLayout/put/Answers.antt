use Rattle.std.proofs.Common.{sym, ◌≡◌, Some, None, true, length, get_or, set, arith, ap, subst, ◌∙◌, false}
use Rattle.std.specs.Option.{is_some}
use Rattle.std.proofs.lemmas.List.{length-map}
use Rattle.string_interner.specs.Probe.{Follows}
use Rattle.string_interner.specs.Tagged.{code_at, symbol_in, symbols_in}
use Rattle.string_interner.specs.Words.{word_layout}
use Rattle.string_interner.proofs.Lemmas.Index.ProbeLoop.{comes_to_empty, empty_from, free_at, passes, some_from}
use Rattle.string_interner.proofs.Lemmas.Table.IsCoded.{Fills-free}
use Rattle.string_interner.proofs.Lemmas.TaggedSlots.SymbolsIn.{symbols_in-at}
use Rattle.string_interner.proofs.dedup.words.WordSlotsLayout.put.Goals as goal

pub returns-then-is_none : goal.returns-then-is_none
returns-then-is_none g c =
    let inv = c.loop-step.invariant in let tagged = c.args.self.now in let slots = symbols_in tagged in
    let n = c.len-count.ensures in let m = length-map tagged symbol_in in
    let e = symbols_in-at tagged c.loop-step.at None (ap (λ xs. get_or xs c.loop-step.at None) (sym inv.same) ∙ sym c.item_at.ensures ∙ empty_from c.item_at.result c.if-is_none.ensures) in
    Fills-free word_layout tagged c.set.new.self c.args.home c.loop-step.at c.args.symbol c.args.code
    (free_at slots c.args.home c.requires.home (λ _. false) c.loop-step._step c.loop-step.at inv.walked (omega arith) e)
    (c.set.ensures.slots ∙ ap (λ xs. set (symbols_in xs) c.loop-step.at (Some c.args.symbol)) inv.same) c.set.ensures.stored
    (λ k ne. c.set.ensures.others k ne ∙ ap (λ xs. code_at xs k) inv.same)

pub loop-step-preserved : goal.loop-step-preserved
loop-step-preserved g c =
    let inv = c.loop-step.invariant in let tagged = c.args.self.now in let slots = symbols_in tagged in
    let n : c.len-count.result ≡ length slots = c.len-count.ensures in let m = length-map tagged symbol_in in
    let after : Follows (length slots) c.loop-step.at c.slot_after-at.result = subst (λ n. Follows n c.loop-step.at c.slot_after-at.result) c.len-count.ensures c.slot_after-at.ensures in
    let here = some_from c.item_at.result c.if-is_none.ensures in
    let e : is_some (get_or slots c.loop-step.at None) ≡ true =
    ap is_some (symbols_in-at tagged c.loop-step.at (Some here.0) (ap (λ xs. get_or xs c.loop-step.at None) (sym inv.same) ∙ sym c.item_at.ensures ∙ here.1)) in
    record { walked = passes slots _ c.requires.home _ _ _ inv.walked (omega arith) e after.within after.one_on; same = inv.same }

pub returns : goal.returns
returns g c =
    let inv = c.loop-step.invariant in let slots = symbols_in c.args.self.now in let n : c.len-count.result ≡ length slots = c.len-count.ensures in
    absurd (comes_to_empty slots _ c.requires.home _ _ inv.walked (omega arith) c.requires.free)
