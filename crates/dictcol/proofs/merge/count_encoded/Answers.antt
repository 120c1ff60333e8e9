use Rattle.std.proofs.Common.{subst}
use Rattle.dictcol.specs.Counts.{IsCountsText}
use Rattle.dictcol.proofs.merge.count_encoded.Goals as goal

pub returns-in-Ok-clause-written : goal.returns-in-Ok-clause-written
returns-in-Ok-clause-written g c =
    let lines = c.in_ok-lines.ensures.lines in
    let written = c.in-Ok.ensures.written in
    (written.0, (lines.0, lines.1, subst (λ rows. IsCountsText c.args.asked rows written.0) lines.2.lines_are written.1), written.2)
