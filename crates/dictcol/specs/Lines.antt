-- The lines of a text, and the text of lines.
-- Cited by `block`, `blocks`, `count`, `dictionary`, `distinct`, `file`, `format`, `line_blocks`, `lines`, `mend`, `merge`, `plain`,
-- `quoted`, `rows`, `shards`, `split` and `stream`.
use Rattle.std.specs.Prelude.{◌≡◌, ℕ, ◌==◌, List, [], ◌∷◌, ◌++◌, Bool, true, filter, if◌then◌else◌}
use Rattle.std.specs.List.{list_any, onto_first, join_with_byte, flat_map, concat}
use Rattle.std.specs.Str.{is_utf8}
use Rattle.string_interner.specs.Text.{Text}

abbrev pub is_newline : ℕ → Bool
is_newline byte = byte == 10

-- a newline if it says so, and else nothing
abbrev pub newline_if : Bool → List ℕ
newline_if is_ended = if is_ended then 10 ∷ [] else []

abbrev pub behind_newline : Text → Text
behind_newline line = 10 ∷ line

-- the text of lines: they stand between newlines, and one more is at the end if it says so
abbrev pub text_of_lines : List Text → Bool → Text
text_of_lines lines is_ended = join_with_byte 10 lines ++ newline_if is_ended

-- lines, and a newline behind each
abbrev pub ended_text : List Text → Text
ended_text lines = flat_map (λ line. line ++ 10 ∷ []) lines

-- the text of lines that a newline ends each, and of what stands behind the last newline
abbrev pub text_of_ended : List Text → Text → Text
text_of_ended lines rest = ended_text lines ++ rest

-- whether a text has a newline, and so is not one line
abbrev pub has_newline : Text → Bool
has_newline text = list_any is_newline text

-- The lines of a text. A newline at the very end ends the last line and begins no further one.
abbrev pub lines_of : List ℕ → List (List ℕ)
lines_of [] = []
lines_of (b ∷ bs) = if b == 10 then [] ∷ lines_of bs else onto_first b (lines_of bs)

-- the lines of a text, each with the newline that ends it
abbrev pub whole_lines : Text → List Text
whole_lines [] = []
whole_lines (byte ∷ text) = if is_newline byte then (byte ∷ []) ∷ whole_lines text else onto_first byte (whole_lines text)

-- a text without the lines that are not UTF-8
abbrev pub utf8_lines : Text → Text
utf8_lines text = concat (filter is_utf8 (whole_lines text))

-- A text has these lines, of which the last ends in a newline or not.
pub record AreLines (text : Text) (lines : List Text) (is_ended : Bool) : Type 0 where
  pub lines_are : lines ≡ lines_of text
  -- the text without the newline at its very end
  pub body : Text
  pub whole : text ≡ body ++ newline_if is_ended
  pub end : (front : Text) → text ≡ front ++ 10 ∷ [] → is_ended ≡ true
