use Rattle.std.proofs.Common.{◌≡◌, take, map}
use Rattle.string_column.specs.Column.{dictionary_of}
use Rattle.string_column.proofs.Lemmas.Counts.{count_in}
use Rattle.string_column.proofs.rows.Column.counts.Given as goal

-- the counts of the rows so far
abbrev pub invariant-loop-index : goal.invariant-loop-index
invariant-loop-index g l = l.counts.items ≡ map (count_in (take l.index l.self)) (dictionary_of l.self)
