use Rattle.string_interner.proofs.Lemmas.Backend.Numbering.{numbered}
use Rattle.suite.proofs.Places.{appended-place}
use Rattle.suite.proofs.backends.read_back.Goals as goal

pub resolve_unchecked-requires : goal.resolve_unchecked-requires
resolve_unchecked-requires g c = appended-place g.B.Store.numbering (numbered g.B.Store.numbering g.met.B.Store.symbols g.met.B.Symbol.Symbol.numbered) _ _ c.args.text.now _ c.in_ok-symbol.ensures.appends
