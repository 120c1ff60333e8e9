use Rattle.std.proofs.Common.{ℕ, ◌-◌, ◌<◌, ◌≤◌, None, length, arith, sym, ap, subst, ◌∙◌, refl, inr}
use Rattle.std.specs.List.{Contains}
use Rattle.std.proofs.lemmas.List.Elements.{Contains-get_or}
use Rattle.string_interner.specs.Entry.{entry_text}
use Rattle.string_interner.specs.Index.{has_text}
use Rattle.string_interner.specs.Probe.{Follows, Misses, Passes}
use Rattle.string_interner.specs.Tagged.{HasAnotherTag, symbol_in, symbols_in, tag_of}
use Rattle.std.proofs.lemmas.List.{length-map}
use Rattle.string_interner.proofs.Lemmas.Index.ProbeLoop.{empty_from, some_from}
use Rattle.string_interner.proofs.Lemmas.TaggedSlots.SymbolsIn.{symbols_in-at}
use Rattle.string_interner.proofs.Lemmas.TaggedSlots.TagTells.{TagTells-misses}
use Rattle.string_interner.proofs.dedup.tagged.TaggedSlots.reach.Goals as goal
use Rattle.string_interner.proofs.dedup.tagged.TaggedSlots.reach.Goals.{After-pass-reached}
use Rattle.string_interner.proofs.dedup.tagged.TaggedSlots.reach.Given.{Over}

-- a slot of another tag misses
misses : (g : Over) (c : After-pass-reached g) → (k : ℕ) → k < length c.args.self.now → HasAnotherTag c.args.self.now c.tag_of-tag.result k
    → Misses (has_text (entry_text g.B.Store.numbering (g.B.Store.texts c.args.looks.now.backend)) c.args.text.now) (symbols_in c.args.self.now) k
misses g c = TagTells-misses (entry_text g.B.Store.numbering (g.B.Store.texts c.args.looks.now.backend)) _ c.args.self.now c.requires.fits.1.0 c.args.text.now c.args.code _ c.requires.fits.1.1
    (c.tag_of-tag.ensures ∙ ap tag_of c.stored_code.ensures)

-- so do all that are passed, if they have others
passes : (g : Over) (c : After-pass-reached g) → (to : ℕ) → c.args.at ≤ to → to < length c.args.self.now → ((k : ℕ) → c.args.at ≤ k → k < to → HasAnotherTag c.args.self.now c.tag_of-tag.result k)
    → Passes (has_text (entry_text g.B.Store.numbering (g.B.Store.texts c.args.looks.now.backend)) c.args.text.now) (symbols_in c.args.self.now) c.args.at to
passes g c to a l others =
    let m = length-map c.args.self.now symbol_in in
    record { ordered = a; within = omega arith; missed = λ k from before. misses g c k (omega arith) (others k from before) }

pub has_text-requires : goal.has_text-requires
has_text-requires g c =
    let slots = symbols_in c.args.self.now in let m = length-map c.args.self.now symbol_in in let l = c.in-Some.ensures.within in
    c.requires.fits.1.0.slots.entries c.in-Some.item.symbol
    (subst (Contains slots) (symbols_in-at c.args.self.now c.pass-reached.result _ c.in-Some.ensures.filled) (Contains-get_or slots c.pass-reached.result None (omega arith)))

pub returns-in-Some-clause-leads : goal.returns-in-Some-clause-leads
returns-in-Some-clause-leads g c =
    let h = (goal.at.returns-in-Some-clause-leads g c).After-pass-reached in (
      c.pass-reached.result,
      passes g h c.pass-reached.result c.pass-reached.ensures.from c.in-Some.ensures.within c.pass-reached.ensures.passed,
      symbols_in-at c.args.self.now c.pass-reached.result _ c.in-Some.ensures.filled,
      sym c.has_text.ensures.value ∙ c.if-has_text.true,
    )

pub returns-in-Some-2-clause-leads : goal.returns-in-Some-2-clause-leads
returns-in-Some-2-clause-leads g c =
    let h = (goal.at.returns-in-Some-2-clause-leads g c).After-pass-reached in
    let after : Follows (length (symbols_in c.args.self.now)) c.pass-reached.result c.slot_after.result = subst (λ n. Follows n c.pass-reached.result c.slot_after.result) c.len-count.ensures c.slot_after.ensures in (
      c.pass-reached.result,
      passes g h c.pass-reached.result c.pass-reached.ensures.from c.in-Some.ensures.within c.pass-reached.ensures.passed,
      record { symbol = c.in-Some.item.symbol; filled = symbols_in-at c.args.self.now c.pass-reached.result _ c.in-Some.ensures.filled; fails = sym c.has_text.ensures.value ∙ c.if-has_text.false },
      after,
    )

pub returns-in-None-clause-leads : goal.returns-in-None-clause-leads
returns-in-None-clause-leads g c =
    let h = (goal.at.returns-in-None-clause-leads g c).After-pass-reached in let m = length-map c.args.self.now symbol_in in
    let n = c.len-count.ensures in let last = length c.args.self.now - 1 in let l = c.requires.within in let f = c.if-reached-count.true in (
      last,
      passes g h last (omega arith) (omega arith) (λ k from before. c.pass-reached.ensures.passed k from (omega arith)),
      misses g h last (omega arith) (c.pass-reached.ensures.passed last (omega arith) (omega arith)),
      record { within = omega arith; one_on = inr (refl, omega arith) },
    )

pub returns-in-None-2-clause-leads : goal.returns-in-None-2-clause-leads
returns-in-None-2-clause-leads g c =
    let h = (goal.at.returns-in-None-2-clause-leads g c).After-pass-reached in let m = length-map c.args.self.now symbol_in in
    let n = c.len-count.ensures in let w = c.pass-reached.ensures.within in let ne = c.if-reached-count.false in (
      passes g h c.pass-reached.result c.pass-reached.ensures.from (omega arith) c.pass-reached.ensures.passed,
      symbols_in-at c.args.self.now c.pass-reached.result None (sym c.item_at.ensures ∙ empty_from c.item_at.result c.if-is_none.ensures),
    )

pub returns-in-None-3-clause-leads : goal.returns-in-None-3-clause-leads
returns-in-None-3-clause-leads g c =
    let h = (goal.at.returns-in-None-3-clause-leads g c).After-pass-reached in let m = length-map c.args.self.now symbol_in in
    let n = c.len-count.ensures in let w = c.pass-reached.ensures.within in let ne = c.if-reached-count.false in
    let here = some_from c.item_at.result c.if-is_none.ensures in let is = sym c.item_at.ensures ∙ here.1 in
    let after : Follows (length (symbols_in c.args.self.now)) c.pass-reached.result c.slot_after-in-None-3.result = subst (λ n. Follows n c.pass-reached.result c.slot_after-in-None-3.result) c.len-count.ensures c.slot_after-in-None-3.ensures in (
      c.pass-reached.result,
      passes g h c.pass-reached.result c.pass-reached.ensures.from (omega arith) c.pass-reached.ensures.passed,
      misses g h c.pass-reached.result (omega arith) (record { item = here.0; filled = is; other = c.in-None.ensures.other here.0 is }),
      after,
    )
