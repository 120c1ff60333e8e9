use Rattle.std.proofs.Common.{◌-◌, ◌≤◌, length}
use Rattle.dictcol.proofs.LineBounds.{AreBoundsTo}
use Rattle.dictcol.proofs.plain.dictionary.find_bounds.Given as goal

-- the bounds of the lines so far were found
abbrev pub invariant-lines : goal.invariant-lines
invariant-lines l = record {
  so_far : AreBoundsTo l.file l.bounds.items l.end;
  within : l.end ≤ length l.file;
}

abbrev pub decreases-lines : goal.decreases-lines
decreases-lines l = length l.file - l.end
