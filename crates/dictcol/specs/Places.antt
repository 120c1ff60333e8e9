-- Where a file ends early.
-- Cited by `file`.
use Rattle.std.specs.Prelude.{◌≡◌, ℕ, ◌+◌, ◌-◌, ◌^◌, List, length, drop, min, count_by, false}
use Rattle.string_interner.specs.Text.{Text}
use Rattle.dictcol.specs.Lines.{has_newline, is_newline, text_of_ended}
use Rattle.dictcol.specs.declared.fault.Fault.{Fault}
use Rattle.dictcol.specs.declared.fault.Fault.TheVariants.{EndsEarly}

-- the last line of a text begins at this index
abbrev pub IsLastLine : Text → ℕ → Type 0
IsLastLine text begin = (lines : List Text) × (text ≡ text_of_ended lines (drop begin text)) × (has_newline (drop begin text) ≡ false)

-- the fault tells the place behind the end of a text: its line, and its column in bytes, both from 1 on; the greatest `usize` if one
-- is above that
abbrev pub IsEarlyEnd : Text → Fault → Type 0
IsEarlyEnd text fault =
    (begin : ℕ) × IsLastLine text begin
    × (fault ≡ EndsEarly (min (count_by is_newline text + 1) (2 ^ 64 - 1)) (min (length (drop begin text) + 1) (2 ^ 64 - 1)))
