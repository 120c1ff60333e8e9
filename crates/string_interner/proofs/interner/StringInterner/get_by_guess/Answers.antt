use Rattle.std.proofs.Common.{sym, ap, ◌∙◌, Some}
use Rattle.std.proofs.lemmas.Slice.Eq.{bytes_eq-Decides}
use Rattle.string_interner.specs.EntryLaws.{entry_text-IsPlace, entry_text-resolved}
use Rattle.string_interner.proofs.Lemmas.Backend.Numbering.{numbered, injective}
use Rattle.string_interner.proofs.Lemmas.Interner.IsSoundInterner.{finds, known-entry}
use Rattle.string_interner.proofs.interner.StringInterner.get_by_guess.Goals as goal

pub resolve_unchecked-requires : goal.resolve_unchecked-requires
resolve_unchecked-requires g c = entry_text-IsPlace g.B.Store.numbering _ c.in-Some.symbol c.in-Some.ensures

pub returns-then-texts_are_equal : goal.returns-then-texts_are_equal
returns-then-texts_are_equal g c =
    let found = entry_text-resolved g.B.Store.numbering _ c.in-Some.symbol _ c.in-Some.ensures c.resolve_unchecked.ensures in
    let same = (bytes_eq-Decides _ _).0 (sym c.texts_are_equal.ensures ∙ c.if-texts_are_equal.true) in
    rw (← c.self.view_is) (finds g.B.Store.numbering _ c.args.text.now _ c.self.invariant.texts.valid
    (sym (known-entry g.B.Store.numbering (numbered g.B.Store.numbering g.met.B.Store.symbols g.met.B.Symbol.Symbol.numbered) (injective g.B.Store.numbering g.met.B.Store.symbols g.met.B.Symbol.Symbol.injective) g.met.B.Store.grows _ c.self.invariant.texts.distinct c.self.invariant.texts.valid c.args.text.now _ (found ∙ ap Some same))))
