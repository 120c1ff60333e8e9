-- Some rows of a column: the lines that they are, and the faults of reading these.
-- Cited by `excerpt` and `get`.
use Rattle.std.specs.Prelude.{◌≡◌, ℕ, ◌+◌, ◌-◌, ◌^◌, ◌<◌, ◌≤◌, ◌⊎◌, ◌↔◌, All, List, length, take, drop, min, slice_range, Option, IfSome}
use Rattle.std.specs.List.{Contains}
use Rattle.std.specs.List.Sorted.{IsStrictlyIncreasing}
use Rattle.std.specs.Option.{unwrap_or}
use Rattle.string_interner.specs.Text.{Text}
use Rattle.string_column.specs.Column.{rows_of}
use Rattle.string_column.specs.Parts.{IsOutside}
use Rattle.dictcol.specs.Get.{IsPassFault}
use Rattle.dictcol.specs.Lines.{ended_text}
use Rattle.dictcol.specs.Plain.{line_bounds, IsLinesFile}
use Rattle.dictcol.specs.TooMany.{IsPastCount}
use Rattle.dictcol.specs.declared.fault.Fault.{Fault}
use Rattle.dictcol.specs.declared.fault.Fault.TheVariants.{NotALine}
use Rattle.dictcol.specs.declared.plain.excerpt.Excerpt.{Excerpt}

-- the rows from one on and before another, or to the last one; rows beyond that are not there
abbrev pub rows_within : List Text → ℕ → Option ℕ → List Text
rows_within rows start end = slice_range rows start (unwrap_or end (length rows))

-- the numbers are the codes, each once, and in ascending order
pub record AreDistinct (codes numbers : List ℕ) : Type 0 where
  pub ascend : IsStrictlyIncreasing numbers
  pub same : (number : ℕ) → Contains codes number ↔ Contains numbers number

-- These lines were looked at. Of the distinct codes of rows, those of lines that were met are in front, and their lines are kept.
pub record HasLooked (excerpt : Excerpt) (lines : List Text) : Type 0 where
  pub distinct : AreDistinct excerpt.codes.items excerpt.numbers.items
  pub few : excerpt.met ≤ length excerpt.numbers.items
  pub below : All (λ number. number < length lines) (take excerpt.met excerpt.numbers.items)
  pub ahead : All (λ number. length lines ≤ number) (drop excerpt.met excerpt.numbers.items)
  pub text_is : excerpt.text.items ≡ ended_text (rows_of lines (take excerpt.met excerpt.numbers.items))
  pub bounds_are : excerpt.bounds.items ≡ line_bounds 0 (rows_of lines (take excerpt.met excerpt.numbers.items))
  pub total_is : excerpt.total ≡ length lines

-- of the lines it holds those of rows with these codes
pub record HoldsRows (excerpt : Excerpt) (lines : List Text) (codes : List ℕ) : Type 0 where
  pub looked : HasLooked excerpt lines
  pub codes_are : excerpt.codes.items ≡ codes
  pub within : All (λ code. code < length lines) codes

-- The fault tells the first row whose number is not that of a line. The first of the numbers is that of row `start`.
abbrev pub IsNoLine : ℕ → List ℕ → Option Text → Fault → Type 0
IsNoLine start codes file fault = (index : ℕ) × (fault ≡ NotALine (min (start + index) (2 ^ 64 - 1)))
    × IfSome file (λ text. (lines : List Text) × IsLinesFile lines text × IsOutside (length lines) codes index)

-- the faults of reading the lines of rows with these codes: those of reading all lines, or a code is not the number of a line
abbrev pub IsExcerptFault : ℕ → List ℕ → Option Text → Fault → Type 0
IsExcerptFault start codes file fault = IsPassFault IsPastCount file fault ⊎ IsNoLine start codes file fault
