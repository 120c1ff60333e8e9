use Rattle.std.proofs.Common.{◌≡◌, List, ◌++◌}
use Rattle.std.specs.List.{slice_split}
use Rattle.string_interner.specs.Text.{Text}
use Rattle.dictcol.specs.Lines.{is_newline}
use Rattle.dictcol.specs.Shards.{HasSharded}
use Rattle.dictcol.proofs.shards.ShardsTakesLines.take_lines.Given as goal

-- the lines so far were taken, and those ahead are the others
abbrev pub invariant-loop-line : goal.invariant-loop-line
invariant-loop-line g l =
    let has = HasSharded g.H.TextHasher.code g.W.Write.contents in
    (front : List Text) × ((lines : List Text) → has l.fn.self lines → has l.self (lines ++ front)) × (front ++ l.line-iterator ≡ slice_split is_newline l.text)
