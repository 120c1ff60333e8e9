use Rattle.string_interner.proofs.Lemmas.Backend.Numbering.{numbered, injective}
use Rattle.string_interner.proofs.Lemmas.Interner.IsSoundInterner.{interned-same}
use Rattle.suite.proofs.indexes.filled.Filled.reserve.Goals as goal

pub invariant_of-self : goal.invariant_of-self
invariant_of-self g c = interned-same g.B.Store.numbering (numbered g.B.Store.numbering g.met.B.Store.symbols g.met.B.Symbol.Symbol.numbered) (injective g.B.Store.numbering g.met.B.Store.symbols g.met.B.Symbol.Symbol.injective) g.met.B.Store.grows _ _ _ c.self.invariant _ c.reserve_one.ensures.fits c.reserve_one.ensures.same c.reserve_one.ensures.reserves.count
