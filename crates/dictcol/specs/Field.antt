-- One field of each line of a text.
-- Cited by `field`.
use Rattle.std.specs.Prelude.{◌≡◌, ℕ, ◌-◌, ◌==◌, List, [], ◌∷◌, ◌++◌, Option, Some, None, nat_lt, slice_index_or, if◌then◌else◌}
use Rattle.std.specs.List.{slice_split}
use Rattle.std.specs.Int.NonZero.{non_zero_usize_get}
use Rattle.std.specs.Option.{option_map}
use Rattle.string_interner.specs.Text.{Text}
use Rattle.dictcol.specs.Lines.{is_newline}
use Rattle.dictcol.specs.declared.input.field.Field.{Field}
use Rattle.dictcol.specs.declared.input.field.Seen.{Seen}
use Rattle.dictcol.specs.declared.input.field.Seen.TheVariants as seen
use Rattle.dictcol.specs.declared.input.field.BegunLine.{BegunLine}

-- the parts of a line between separators
abbrev pub parts_of : Field → Text → List Text
parts_of field line = slice_split (λ byte. byte == field.separator) line

-- the place of the field among them, from 0 on
abbrev pub place_of : Field → ℕ
place_of field = non_zero_usize_get field.number - 1

-- the part of a line that is the field, empty if it has fewer parts
abbrev pub field_of : Field → Text → Text
field_of field line = slice_index_or (parts_of field line) (place_of field) []

-- a line that no newline ends, with one if it is empty: an empty line is one by its newline alone
abbrev pub last_line : Text → Text
last_line [] = 10 ∷ []
last_line (byte ∷ line) = byte ∷ line

-- the fields of lines that newlines end, but for the last. If that is empty, there is no such line.
abbrev pub fields_of : Field → List Text → Text
fields_of field [] = []
fields_of field ([] ∷ []) = []
fields_of field ((byte ∷ line) ∷ []) = last_line (field_of field (byte ∷ line))
fields_of field (line ∷ next ∷ lines) = field_of field line ++ 10 ∷ fields_of field (next ∷ lines)

-- the fields of the lines of a text
abbrev pub fields_text : Field → Text → Text
fields_text field text = fields_of field (slice_split is_newline text)

-- what is read of an input: all, or the fields of its lines
abbrev pub picked_text : Option Field → Option Text → Option Text
picked_text None input = input
picked_text (Some field) input = option_map (fields_text field) input

-- ---- within a line

-- what of the field is in the rest of a line, which had so many separators before
abbrev pub field_left : Field → ℕ → Text → Text
field_left field passed rest = if nat_lt (place_of field) passed then [] else slice_index_or (parts_of field rest) (place_of field - passed) []

-- what is read of the rest of a last line, which no newline ends, behind what was seen of it, if this is left of its field. If nothing was
-- seen and nothing comes, there is no such line.
abbrev pub last_left : Seen → Text → Text → Text
last_left seen.Nothing [] left = []
last_left seen.Nothing (byte ∷ rest) left = last_line left
last_left seen.Others rest left = last_line left
last_left seen.Field rest left = left

-- the fields of lines as above, of which the first was begun
abbrev pub lines_left : Field → BegunLine → List Text → Text
lines_left field begun [] = []
lines_left field begun (rest ∷ []) = last_left begun.seen rest (field_left field begun.passed rest)
lines_left field begun (rest ∷ next ∷ lines) = field_left field begun.passed rest ++ 10 ∷ fields_of field (next ∷ lines)

-- the fields of the lines of a text that goes on with a begun line
abbrev pub fields_left : Field → BegunLine → Text → Text
fields_left field begun text = lines_left field begun (slice_split is_newline text)

-- what is left to read, if this is left of the input
abbrev pub picked_left : Option Field → BegunLine → Option Text → Option Text
picked_left None begun input = input
picked_left (Some field) begun input = option_map (fields_left field begun) input

-- Of the bytes that come next these are of the field or end lines, whatever comes then.
abbrev pub Picks : Field → BegunLine → BegunLine → Text → Text → Type 0
Picks field old new bytes kept = (rest : Text) → fields_left field old (bytes ++ rest) ≡ kept ++ fields_left field new rest
