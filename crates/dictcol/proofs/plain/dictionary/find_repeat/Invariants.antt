use Rattle.std.proofs.Common.{◌≡◌, ℕ, ◌<◌, Some}
use Rattle.std.specs.Prelude.{slice_get}
use Rattle.dictcol.proofs.plain.dictionary.find_repeat.Given as goal

-- the codes so far are their own indexes
abbrev pub invariant-loop-row : goal.invariant-loop-row
invariant-loop-row g l = (i : ℕ) → i < l.row → slice_get l.codes.items i ≡ Some i
