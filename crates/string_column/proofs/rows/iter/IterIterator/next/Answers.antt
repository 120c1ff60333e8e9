use Rattle.std.proofs.Common.{◌<◌, length, arith}
use Rattle.string_column.proofs.Lemmas.Rows.{first-ahead}
use Rattle.string_column.proofs.rows.iter.IterIterator.next.Goals as goal

pub returns-clause-steps : goal.returns-clause-steps
returns-clause-steps g c =
    let rows = c.self.inside.column.now in
    let within : c.self.inside.next < length rows = omega (arith, c.self.invariant, c.len.ensures, c.if-self-len.false) in
    rw (← c.self.view_is) (first-ahead rows c.self.inside.next c.row-row.result within c.row-row.ensures)
