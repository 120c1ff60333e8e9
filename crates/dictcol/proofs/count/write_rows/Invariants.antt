use Rattle.std.proofs.Common.{take, map}
use Rattle.std.specs.Io.KnownBytes.{Appends}
use Rattle.std.specs.List.{flat_map}
use Rattle.dictcol.specs.Counts.{count_line, row_of}
use Rattle.dictcol.proofs.count.write_rows.Given as goal

-- the rows so far were written
abbrev pub invariant-loop-count : goal.invariant-loop-count
invariant-loop-count g l =
    Appends (g.W.Write.contents l.initial.output) (g.W.Write.contents l.output) (flat_map count_line (map row_of (take l.count-index l.rows)))
