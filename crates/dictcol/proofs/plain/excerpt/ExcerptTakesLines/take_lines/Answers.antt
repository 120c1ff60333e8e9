use Rattle.std.proofs.Common.{◌++◌, ◌∙◌}
use Rattle.std.proofs.lemmas.Result.{err_from_is_err_and}
use Rattle.dictcol.specs.Excerpt.{HasLooked}
use Rattle.dictcol.specs.TooMany.{IsPastCount}
use Rattle.dictcol.proofs.Counted.{taken-on}
use Rattle.dictcol.proofs.TooMany.{next-refused, take-weaker}
use Rattle.dictcol.proofs.plain.excerpt.ExcerptTakesLines.take_lines.Goals as goal

pub loop-line-preserved : goal.loop-line-preserved
loop-line-preserved c =
    let inv = c.loop-line.invariant in
    record {
      taken = taken-on HasLooked _ _ _ _ _ _ c.in-Some.line.now c.in-Some.ensures.steps inv.taken c.in_ok-take.ensures.taken;
      codes = c.take.ensures.codes ∙ inv.codes;
    }

pub returns-in_err-take-clause-fault : goal.returns-in_err-take-clause-fault
returns-in_err-take-clause-fault c lines has =
    let inv = c.loop-line.invariant.taken in
    let p = err_from_is_err_and c.from_residual.result c.from_residual.ensures.1 in
    rw (p.1, p.2) (take-weaker _ (next-refused IsPastCount lines inv.0 _ _ _ c.in-Some.line.now c.in-Some.ensures.steps inv.2) (c.in_err-take.ensures.fault (lines ++ inv.0) (inv.1 lines has)))
