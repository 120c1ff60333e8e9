use Rattle.std.proofs.Common.{rules}
use Rattle.string_interner.proofs.Lemmas.Interner.Extends.{collects-refused}
use Rattle.string_interner.specs.Extend.{YieldedBy}
use Rattle.string_interner.proofs.interner.StringInterner.from_iter.Goals as goal

pub returns-in_err-extend : goal.returns-in_err-extend
returns-in_err-extend g c = collects-refused g.B.Store.numbering g.I.TextIndex.rule (YieldedBy g.T.IntoIterator g.T.IntoIter.Iterator c.args.iter) c.new-interner.result _ c.in_err-extend.field-0.0 c.from_residual.result
    c.new-interner.ensures (search rules) c.in_err-extend.ensures
