-- How messages show words and paths.
-- Cited by `shown`.
use Rattle.std.specs.Prelude.{ℕ, zero, suc, Bool, false, Option, option_map, Some, [], ◌∷◌, ◌++◌, length, take, nat_le, nat_lt, slice_index, codes, if◌then◌else◌}
use Rattle.std.specs.Char.{is_control}
use Rattle.std.specs.Fmt.{debug_str}
use Rattle.std.specs.List.{list_any}
use Rattle.std.specs.Str.{chars}
use Rattle.string_interner.specs.Text.{Text}

abbrev pub has_control : Text → Bool
has_control text = list_any is_control (chars text)

-- the byte goes on with a letter that has begun
abbrev pub is_within_letter : ℕ → Bool
is_within_letter byte = if nat_lt byte 128 then false else nat_lt byte 192

-- where the letter begins that has the byte at this place
abbrev pub begin_of_letter : Text → ℕ → ℕ
begin_of_letter text zero = 0
begin_of_letter text (suc at) = if is_within_letter (slice_index text (suc at)) then begin_of_letter text at else suc at

-- of a long text the letters that are whole within its first 1,024 bytes
abbrev pub shown_part : Text → Text
shown_part text = if nat_le (length text) 1024 then text else take (begin_of_letter text 1024) text

-- what stands for the rest of a long text
abbrev pub end_mark : Text → Text
end_mark text = if nat_le (length text) 1024 then [] else codes ".."

-- what is shown of it, as it is or if it has a control character as `{:?}` writes it
abbrev pub shown_path : Text → Option Text
shown_path path =
    option_map (λ shown. shown ++ end_mark path) (if has_control (shown_part path) then debug_str (shown_part path) else Some (shown_part path))

-- the same between quotes
abbrev pub shown_word : Text → Option Text
shown_word word =
    option_map (λ shown. shown ++ end_mark word)
    (if has_control (shown_part word) then debug_str (shown_part word) else Some (39 ∷ (shown_part word ++ 39 ∷ [])))
