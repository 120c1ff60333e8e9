use Rattle.std.proofs.Common.{◌≡◌, ◌≤◌, ◌++◌, length}
use Rattle.dictcol.specs.Lines.{utf8_lines}
use Rattle.dictcol.proofs.input.mend.keep_good_lines.Given as goal

-- the good lines so far, and those of the rest
abbrev pub invariant-loop-rest : goal.invariant-loop-rest
invariant-loop-rest l = record {
  so_far : l.kept.items ++ utf8_lines l.rest ≡ l.fn.kept.items ++ utf8_lines l.text;
  within : length l.rest ≤ length l.text;
}

abbrev pub decreases-loop-rest : goal.decreases-loop-rest
decreases-loop-rest l = length l.rest
