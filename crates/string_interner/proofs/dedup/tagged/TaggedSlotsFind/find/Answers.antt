use Rattle.std.proofs.Common.{◌≡◌, ℕ, ◌<◌, ◌%◌, None, length, slice_index_or, arith, sym, ap, subst, ◌∙◌}
use Rattle.std.proofs.lemmas.List.{length-map}
use Rattle.string_interner.specs.Entry.{entry_text}
use Rattle.string_interner.specs.Index.{has_text}
use Rattle.string_interner.specs.Probe.{Passes, StepsTo}
use Rattle.string_interner.specs.Tagged.{HasAnotherTag, symbol_in, symbols_in, tag_of}
use Rattle.string_interner.specs.declared.dedup.probe.Step.TheVariants.{Found, Free, On}
use Rattle.string_interner.proofs.Lemmas.Index.ProbeLoop.{Stands-start, Stands-on, Stands-found, Stands-free_to, empty_from}
use Rattle.string_interner.proofs.Lemmas.Index.Vacancy.{mod_less}
use Rattle.string_interner.proofs.Lemmas.TaggedSlots.SymbolsIn.{symbols_in-at}
use Rattle.string_interner.proofs.Lemmas.TaggedSlots.TagTells.{TagTells-misses}
use Rattle.string_interner.proofs.dedup.tagged.TaggedSlotsFind.find.Goals as goal

pub returns-in-Found-clause-found : goal.returns-in-Found-clause-found
returns-in-Found-clause-found g c =
    let free = c.requires.free.free in let slots = symbols_in c.args.self.now in let h = mod_less c.args.code (length slots) (omega arith) in
    let home = c.home_of.ensures ∙ ap (λ n. c.args.code % n) c.len-count.ensures in
    let leads = subst (λ at. StepsTo (has_text (entry_text g.B.Store.numbering (g.B.Store.texts c.args.looks.now.backend)) c.args.text.now) slots at (Found c.in-Found.symbol)) home c.in-Found.ensures.leads in
    sym (Stands-found _ _ _ h free 0 _ c.in-Found.symbol (Stands-start _ _ _ h free) leads).0

pub returns-in-Free-clause-found : goal.returns-in-Free-clause-found
returns-in-Free-clause-found g c =
    let free = c.requires.free.free in let slots = symbols_in c.args.self.now in let h = mod_less c.args.code (length slots) (omega arith) in
    let home = c.home_of.ensures ∙ ap (λ n. c.args.code % n) c.len-count.ensures in
    let leads = subst (λ at. StepsTo (has_text (entry_text g.B.Store.numbering (g.B.Store.texts c.args.looks.now.backend)) c.args.text.now) slots at (Free c.in-Free.field-0)) home c.in-Free.ensures.leads in
    sym (Stands-free_to _ _ _ h free 0 _ c.in-Free.field-0 (Stands-start _ _ _ h free) leads).found

pub returns-then-is_none-clause-found : goal.returns-then-is_none-clause-found
returns-then-is_none-clause-found g c =
    let free = c.requires.free.free in let slots = symbols_in c.args.self.now in let h = mod_less c.args.code (length slots) (omega arith) in
    let home = c.home_of.ensures ∙ ap (λ n. c.args.code % n) c.len-count.ensures in
    let entry = entry_text g.B.Store.numbering (g.B.Store.texts c.args.looks.now.backend) in
    let test = has_text entry c.args.text.now in
    let leads = subst (λ at. StepsTo test slots at (On c.in-On.from)) home c.in-On.ensures.leads in
    let misses = λ (k : ℕ) (inside : k < length c.args.self.now) (other : HasAnotherTag c.args.self.now c.tag_of.result k).
    TagTells-misses entry _ c.args.self.now c.requires.fits.1.0 c.args.text.now c.args.code _ c.requires.fits.1.1 (c.tag_of.ensures ∙ ap tag_of c.stored_code.ensures) k inside other in
    let m = length-map c.args.self.now symbol_in in let n = c.len-count.ensures in let w = c.pass-stop.ensures.within in let l = c.if-stop-count.true in
    let passes : Passes test slots c.in-On.from c.pass-stop.result =
    record { ordered = c.pass-stop.ensures.from; within = omega arith; missed = λ k from before. misses k (omega arith) (c.pass-stop.ensures.passed k from before) } in
    let none : slice_index_or slots c.pass-stop.result None ≡ None = symbols_in-at c.args.self.now c.pass-stop.result None (sym c.item_at.ensures ∙ empty_from c.item_at.result c.if-is_none.ensures) in
    sym (Stands-free_to _ _ _ h free 1 _ c.pass-stop.result (Stands-on test slots _ h free 0 _ c.in-On.from (Stands-start test slots _ h free) leads) (passes, none)).found
