use Rattle.std.proofs.Common.{sym, subst}
use Rattle.string_interner.specs.Text.{IsDistinct}
use Rattle.string_interner.specs.Backend.{IsValidList}
use Rattle.string_interner.proofs.Lemmas.Backend.IsValidList.{valid-take, distinct-take}
use Rattle.suite.proofs.indexes.filled.Filled.truncate.Goals as goal

pub invariant_of-self : goal.invariant_of-self
invariant_of-self g c = record {
  texts = record {
    distinct = subst IsDistinct (sym c.truncate.ensures.texts) (distinct-take c.args.len (g.B.Store.texts c.self.inside.backend) c.self.invariant.texts.distinct);
    valid = subst (IsValidList g.B.Store.numbering.symbol_of g.B.Store.numbering.place) (sym c.truncate.ensures.texts) (valid-take g.B.Store.numbering.symbol_of g.B.Store.numbering.place g.met.B.Store.grows c.args.len (g.B.Store.texts c.self.inside.backend) c.self.invariant.texts.valid);
  };
  whole = c.refill.ensures.whole;
  count = c.refill.ensures.count_is;
}
