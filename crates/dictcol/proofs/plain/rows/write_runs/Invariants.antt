use Rattle.std.proofs.Common.{◌≤◌, List, length}
use Rattle.string_interner.specs.Text.{Text}
use Rattle.dictcol.specs.Plain.{AreRows}
use Rattle.dictcol.proofs.AreRows.{AreRunsTo}
use Rattle.dictcol.proofs.plain.rows.write_runs.Given as goal

-- the lines of the numbers so far were written, but the last run
abbrev pub invariant-rows : goal.invariant-rows
invariant-rows g l = record {
  ordered : l.start ≤ l.end;
  within : l.end ≤ length l.file;
  so_far : (rows : List Text) → (are : AreRows l.file l.bounds l.numbers rows)
      → AreRunsTo l.file are.lines are.codes_are l.rest l.start l.end (g.W.Write.contents l.initial.output) (g.W.Write.contents l.output);
}

abbrev pub decreases-rows : goal.decreases-rows
decreases-rows g l = length l.rest
