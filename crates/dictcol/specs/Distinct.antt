-- The distinct lines, and what is written of them.
-- Cited by `distinct`.
use Rattle.std.specs.Prelude.{◌≡◌, ℕ, ◌-◌, ◌^◌, ◌≤◌, List, ◌++◌, length, min, take, drop, Option}
use Rattle.std.specs.Io.KnownBytes.{Appends}
use Rattle.string_interner.specs.Text.{Text}
use Rattle.string_column.specs.Column.{AreCodes, dictionary_of}
use Rattle.dictcol.specs.Lines.{ended_text}
use Rattle.dictcol.specs.declared.distinct.DistinctLines.{DistinctLines}

-- each distinct line once, in the order of first appearance, and a newline behind each
abbrev pub distinct_text : List Text → Text
distinct_text lines = ended_text (dictionary_of lines)

-- the known bytes of the output grow by the first distinct lines
abbrev pub WritesFirst : List Text → Option Text → Option Text → Type 0
WritesFirst lines old new = (count : ℕ) × Appends old new (ended_text (take count (dictionary_of lines)))

-- These lines were met: the distinct ones are known, and those wait that are not written.
pub record HasMet {B S : Type 0} (known : DistinctLines B S) (lines : List Text) : Type 0 where
  pub lines_are : known.lines ≡ dictionary_of lines
  pub total_is : known.total ≡ min (length lines) (2 ^ 64 - 1)
  pub within : known.written ≤ length known.lines
  pub waiting_is : known.waiting.items ≡ ended_text (drop known.written known.lines)

-- the codes are those of more lines behind some, of which so many are distinct
pub record IsCodedBy (lines more : List Text) (known : ℕ) (codes : List ℕ) : Type 0 where
  pub known_is : known ≡ length (dictionary_of lines)
  pub codes_are : AreCodes (dictionary_of (lines ++ more)) codes more
