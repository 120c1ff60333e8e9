use Rattle.std.proofs.Common.{◌≡◌, List, ◌++◌, take}
use Rattle.string_interner.specs.Text.{Text}
use Rattle.string_column.specs.Column.{counts_of}
use Rattle.dictcol.specs.Counts.{IsCountedBy}
use Rattle.dictcol.proofs.count.count_codes.Given as goal

-- the codes so far are counted
abbrev pub invariant-loop-at : goal.invariant-loop-at
invariant-loop-at l = (lines more : List Text) → IsCountedBy lines more l.fn.counts.items l.codes.items → l.counts.items ≡ counts_of (lines ++ take l.at more)
