use Rattle.std.proofs.Common.{◌≡◌, ◌<◌, length}
use Rattle.std.specs.Str.{IsUtf8}
use Rattle.dictcol.specs.Shown.{begin_of_letter}
use Rattle.dictcol.proofs.shown.find_begin.Given as goal

-- the letter begins where that of the byte here does
abbrev pub invariant-loop-begin : goal.invariant-loop-begin
invariant-loop-begin l = IsUtf8 l.text × (l.begin < length l.text) × (begin_of_letter l.text l.begin ≡ begin_of_letter l.text l.at)

abbrev pub decreases-loop-begin : goal.decreases-loop-begin
decreases-loop-begin l = l.begin
