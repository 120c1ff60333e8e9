use Rattle.std.proofs.Common.{◌∙◌, sym}
use Rattle.string_interner.proofs.Lemmas.Backend.Numbering.{numbered, injective}
use Rattle.string_interner.proofs.Lemmas.Interner.IsSoundInterner.{known_none, interned-same, fits-more, absent-more, interned-more}
use Rattle.suite.proofs.indexes.filled.FilledTexts.intern.Goals as goal

pub insert-requires-clause-fits : goal.insert-requires-clause-fits
insert-requires-clause-fits g c = fits-more g.B.Store.numbering (numbered g.B.Store.numbering g.met.B.Store.symbols g.met.B.Symbol.Symbol.numbered) (injective g.B.Store.numbering g.met.B.Store.symbols g.met.B.Symbol.Symbol.injective) g.met.B.Store.grows _ _ _ (interned-same g.B.Store.numbering (numbered g.B.Store.numbering g.met.B.Store.symbols g.met.B.Symbol.Symbol.numbered) (injective g.B.Store.numbering g.met.B.Store.symbols g.met.B.Symbol.Symbol.injective) g.met.B.Store.grows _ _ _ c.self.invariant _ c.reserve_one.ensures.fits c.reserve_one.ensures.same c.reserve_one.ensures.reserves.count)
    c.args.text.now _ _ (known_none g.B.Store.numbering _ _ c.self.invariant.texts.valid (rw c.self.view_is (sym c.find.ensures ∙ c.in_default.is))) c.in_ok-symbol.ensures.appends

pub insert-requires-clause-absent : goal.insert-requires-clause-absent
insert-requires-clause-absent g c = absent-more g.B.Store.numbering (numbered g.B.Store.numbering g.met.B.Store.symbols g.met.B.Symbol.Symbol.numbered) (injective g.B.Store.numbering g.met.B.Store.symbols g.met.B.Symbol.Symbol.injective) g.met.B.Store.grows _ _ _ (interned-same g.B.Store.numbering (numbered g.B.Store.numbering g.met.B.Store.symbols g.met.B.Symbol.Symbol.numbered) (injective g.B.Store.numbering g.met.B.Store.symbols g.met.B.Symbol.Symbol.injective) g.met.B.Store.grows _ _ _ c.self.invariant _ c.reserve_one.ensures.fits c.reserve_one.ensures.same c.reserve_one.ensures.reserves.count)
    c.args.text.now _ _ (known_none g.B.Store.numbering _ _ c.self.invariant.texts.valid (rw c.self.view_is (sym c.find.ensures ∙ c.in_default.is))) c.in_ok-symbol.ensures.appends

pub invariant_of-self-2 : goal.invariant_of-self-2
invariant_of-self-2 g c = interned-more g.B.Store.numbering (numbered g.B.Store.numbering g.met.B.Store.symbols g.met.B.Symbol.Symbol.numbered) (injective g.B.Store.numbering g.met.B.Store.symbols g.met.B.Symbol.Symbol.injective) g.met.B.Store.grows _ _ _ (interned-same g.B.Store.numbering (numbered g.B.Store.numbering g.met.B.Store.symbols g.met.B.Symbol.Symbol.numbered) (injective g.B.Store.numbering g.met.B.Store.symbols g.met.B.Symbol.Symbol.injective) g.met.B.Store.grows _ _ _ c.self.invariant _ c.reserve_one.ensures.fits c.reserve_one.ensures.same c.reserve_one.ensures.reserves.count)
    c.args.text.now _ _ (known_none g.B.Store.numbering _ _ c.self.invariant.texts.valid (rw c.self.view_is (sym c.find.ensures ∙ c.in_default.is))) c.in_ok-symbol.ensures.appends _ c.in_ok-symbol.ensures.valid c.insert.ensures.fits c.insert.ensures.pair c.insert.ensures.count
