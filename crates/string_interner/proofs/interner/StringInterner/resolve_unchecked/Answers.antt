use Rattle.string_interner.proofs.Lemmas.Backend.Numbering.{numbered, injective}
use Rattle.string_interner.proofs.Lemmas.Interner.StandsFor.{stands-placed}
use Rattle.string_interner.proofs.interner.StringInterner.resolve_unchecked.Goals as goal

pub returns : goal.returns
returns g c =
    let is_numbered = numbered g.B.Store.numbering g.met.B.Store.symbols g.met.B.Symbol.Symbol.numbered in
    let is_injective = injective g.B.Store.numbering g.met.B.Store.symbols g.met.B.Symbol.Symbol.injective in
    rw (← c.self.view_is) (stands-placed g.B.Store.numbering is_numbered is_injective _ c.args.symbol _ c.self.invariant.texts.valid (rw (← c.self.view_is) at c.requires) c.resolve_unchecked.ensures)
