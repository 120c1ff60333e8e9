use Rattle.std.proofs.Common.{◌≡◌, length, map, take}
use Rattle.dictcol.specs.File.{HoldTogether}
use Rattle.dictcol.proofs.HoldTogether.{AreAhead}
use Rattle.dictcol.proofs.merge.read_files.Given as goal

-- the text is what the inputs before this one hold
abbrev pub invariant-loop-at : goal.invariant-loop-at
invariant-loop-at g l = record {
  so_far : HoldTogether (map g.R.Read.remaining (take l.at l.fn.inputs)) l.text;
  ahead : AreAhead l.fn.inputs l.inputs l.at;
  long : length l.inputs ≡ l.at-end;
  all : length l.fn.inputs ≡ l.at-end;
}
