use Rattle.std.proofs.Common.{rules}
use Rattle.string_interner.proofs.Lemmas.Backend.Numbering.{numbered, by_number}
use Rattle.string_interner.proofs.Lemmas.Interner.StandsFor.{tells_apart, numbers_in_order}
use Rattle.string_interner.proofs.interner.StringInterner.len.Goals as goal

pub returns-clause-holds : goal.returns-clause-holds
returns-clause-holds g c = let is_numbered = numbered g.B.Store.numbering g.met.B.Store.symbols g.met.B.Symbol.Symbol.numbered in record {
  texts = search rules;
  equal = rw (← c.self.view_is) (tells_apart g.B.Store.numbering is_numbered g.met.B.Store.grows g.B.Symbol.PartialEq.eq
      (by_number g.B.Store.numbering g.met.B.Store.symbols g.B.Symbol.PartialEq.eq g.met.B.Symbol.Symbol.equal_by_number) _ c.self.invariant.texts.distinct);
  order = rw (← c.self.view_is) (numbers_in_order g.B.Store.numbering is_numbered g.met.B.Store.grows _);
  loaded = search rules;
}
