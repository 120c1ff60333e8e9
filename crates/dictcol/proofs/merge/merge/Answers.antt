use Rattle.dictcol.proofs.merge.merge.Goals as goal

pub returns-in-Ok-clause-written : goal.returns-in-Ok-clause-written
returns-in-Ok-clause-written g c =
    let lines = c.in_ok-lines.ensures.lines in
    let written = c.in-Ok.ensures.written lines.0 lines.2 in (written.0, (lines.0, lines.1, written.1), written.2)
