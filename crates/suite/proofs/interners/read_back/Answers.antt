use Rattle.string_interner.proofs.Lemmas.Backend.Numbering.{numbered}
use Rattle.suite.proofs.Places.{standing-place}
use Rattle.suite.proofs.interners.read_back.Goals as goal

pub resolve_unchecked-requires : goal.resolve_unchecked-requires
resolve_unchecked-requires g c = standing-place g.B.Store.numbering (numbered g.B.Store.numbering g.met.B.Store.symbols g.met.B.Symbol.Symbol.numbered) _ _ _ c.in_ok-symbol.ensures.stands
