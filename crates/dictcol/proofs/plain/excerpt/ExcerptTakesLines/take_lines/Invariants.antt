use Rattle.std.proofs.Common.{◌≡◌, List, ◌++◌}
use Rattle.std.specs.List.{slice_split}
use Rattle.string_interner.specs.Text.{Text}
use Rattle.dictcol.specs.Excerpt.{HasLooked}
use Rattle.dictcol.specs.Lines.{is_newline}
use Rattle.dictcol.proofs.plain.excerpt.ExcerptTakesLines.take_lines.Given as goal

-- the lines so far were looked at, and those ahead are the others; the codes are as they were
abbrev pub invariant-loop-line : goal.invariant-loop-line
invariant-loop-line l = record {
  taken : (front : List Text) × ((lines : List Text) → HasLooked l.fn.self lines → HasLooked l.self (lines ++ front)) × (front ++ l.line-iterator ≡ slice_split is_newline l.text);
  codes : l.self.codes ≡ l.fn.self.codes;
}
