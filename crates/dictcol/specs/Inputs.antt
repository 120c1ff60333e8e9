-- Which of several files a line is of.
-- Cited by `inputs`, `reader` and `command`.
use Rattle.std.specs.Prelude.{◌≡◌, ℕ, ◌+◌, ◌-◌, ◌^◌, ◌<◌, ◌≤◌, Bool, not, List, [], ◌∷◌, ◌++◌, All, length, min, count_by, nat_lt, slice_get, slice_index_or, if◌then◌else◌, ◌⊎◌, Option, Some, None, codes}
use Rattle.std.specs.Option.{option_and_then, option_map_or}
use Rattle.string_interner.specs.Text.{Text}
use Rattle.dictcol.specs.Compression.{explained}
use Rattle.dictcol.specs.Lines.{is_newline}
use Rattle.dictcol.specs.declared.source.Source.{Source}
use Rattle.dictcol.specs.declared.source.Source.TheVariants.{StandardInput}
use Rattle.dictcol.specs.declared.fault.Fault.{Fault}
use Rattle.dictcol.specs.declared.fault.Fault.TheVariants.{NotUtf8}
use Rattle.dictcol.specs.declared.input.compression.Compression.{Compression}
use Rattle.dictcol.specs.declared.input.inputs.Begin.{Begin}
use Rattle.dictcol.specs.declared.input.inputs.Inputs.{Inputs}
use Rattle.dictcol.specs.declared.located.Located.{Located}

-- the file that is read, or the only one
abbrev pub source_at : List Source → ℕ → Source
source_at (source ∷ []) at = source
source_at sources at = slice_index_or sources at StandardInput

-- the file with this index; standard input, which has no name to tell, for none
abbrev pub named_at : List Source → Option ℕ → Source
named_at files (Some at) = slice_index_or files at StandardInput
named_at files None = StandardInput

-- what compressed the input with this index, as it looks
abbrev pub compression_at : List Inputs → Option ℕ → Option Compression
compression_at inputs (Some at) = option_and_then (λ input. input.compression) (slice_get inputs at)
compression_at inputs None = None

-- if there are several files, one more begins
abbrev pub noted : List Source → List Begin → Begin → List Begin
noted sources begins begin = if nat_lt 1 (length sources) then begins ++ begin ∷ [] else begins

-- if there are several files, so many newlines were read with those of some bytes; the greatest `usize` if they are more
abbrev pub newlines_with : List Source → ℕ → Text → ℕ
newlines_with sources newlines bytes = if nat_lt 1 (length sources) then min (newlines + count_by is_newline bytes) (2 ^ 64 - 1) else newlines

-- a line goes on behind some bytes if the last of them is no newline; if there is none, it does if it did before
abbrev pub goes_on : Bool → Text → Bool
goes_on before bytes = option_map_or (λ byte. not (is_newline byte)) (slice_get bytes (length bytes - 1)) before

-- so many lines have begun: one for each newline, which ends it, and one more where a line goes on; the greatest `usize` if they are
-- more
abbrev pub lines_begun : ℕ → Bool → ℕ
lines_begun newlines is_within = if is_within then min (newlines + 1) (2 ^ 64 - 1) else newlines

-- The line begins in the file that begins here: the last that fewer lines begin before.
pub record IsLineOf (begins : List Begin) (line : ℕ) (begin : Begin) : Type 0 where
  pub earlier : List Begin
  pub later : List Begin
  pub stands : begins ≡ earlier ++ begin ∷ later
  pub begun : begin.lines < line
  pub last : All (λ other. line ≤ other.lines) later

-- A fault is told of this file in this way: a line is counted from the begin of the file that it begins in, and told as one of compressed
-- input if what is read looks like that; any other fault is one of the file that is read.
abbrev pub IsLocated : Inputs → Fault → Located → Type 0
IsLocated inputs (NotUtf8 line) located =
    ((begin : Begin) × IsLineOf inputs.begins.items line begin × (located.source ≡ begin.source)
    × (located.fault ≡ explained inputs.compression (NotUtf8 (line - begin.newlines))))
    ⊎ (All (λ begin. line ≤ begin.lines) inputs.begins.items × (located.source ≡ source_at inputs.sources.now inputs.at)
    × (located.fault ≡ explained inputs.compression (NotUtf8 line)))
IsLocated inputs other located = (located.source ≡ source_at inputs.sources.now inputs.at) × (located.fault ≡ other)

-- the same file of the same ones is read, and lines are told as before
abbrev pub StaysAt : Inputs → Inputs → Type 0
StaysAt old new = (new.sources ≡ old.sources) × (new.at ≡ old.at) × (new.begins ≡ old.begins) × (new.compression ≡ old.compression)

-- what is wrong with a folder, if something is, and else this fault
abbrev pub caused : Option Fault → Fault → Fault
caused damage fault = option_map_or (λ other. other) damage fault

-- what may be done about a fault of reading lines
abbrev pub advice_on_lines : Fault → Text
advice_on_lines (NotUtf8 line) = codes " (see --invalid)"
advice_on_lines other = []
