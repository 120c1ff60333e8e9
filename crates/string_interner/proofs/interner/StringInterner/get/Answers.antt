use Rattle.string_interner.proofs.Lemmas.Backend.Numbering.{numbered, injective}
use Rattle.string_interner.proofs.Lemmas.Interner.IsSoundInterner.{finds, known-found}
use Rattle.string_interner.proofs.interner.StringInterner.get.Goals as goal

pub returns : goal.returns
returns g c = rw (← c.self.view_is) (finds g.B.Store.numbering _ c.args.text.now _ c.self.invariant.texts.valid
    (known-found g.B.Store.numbering (numbered g.B.Store.numbering g.met.B.Store.symbols g.met.B.Symbol.Symbol.numbered) (injective g.B.Store.numbering g.met.B.Store.symbols g.met.B.Symbol.Symbol.injective) g.met.B.Store.grows _ c.self.invariant.texts.distinct c.self.invariant.texts.valid c.args.text.now _ c.find.ensures))
