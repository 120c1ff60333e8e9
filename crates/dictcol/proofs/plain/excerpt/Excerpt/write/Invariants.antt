use Rattle.std.proofs.Common.{List, take}
use Rattle.std.specs.Io.KnownBytes.{Appends}
use Rattle.string_interner.specs.Text.{Text}
use Rattle.string_column.specs.Column.{rows_of}
use Rattle.dictcol.specs.Excerpt.{HasLooked}
use Rattle.dictcol.specs.Lines.{ended_text}
use Rattle.dictcol.proofs.plain.excerpt.Excerpt.write.Given as goal

-- the rows so far were written
abbrev pub invariant-loop-code : goal.invariant-loop-code
invariant-loop-code g l = (lines : List Text) → HasLooked l.self lines → Appends (g.W.Write.contents l.initial.output) (g.W.Write.contents l.output) (ended_text (rows_of lines (take l.code-index l.front)))
