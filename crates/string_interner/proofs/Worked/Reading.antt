-- What is read in a byte buffer at numbers that are no entry's: a length in base 128 from there on, and as many bytes of
-- text behind it.
use Rattle.std.proofs.Common.{◌≡◌, List, [], ◌∷◌, Some, None, refl}
use Rattle.std.specs.Str.{is_utf8, chars}
use lib.Utf8.{encode}
use Rattle.string_interner.specs.Text.{Text}
use Rattle.string_interner.specs.Spelling.{spell_within, spell}
use Rattle.string_interner.specs.BufferBackend.{bytes_of, read_front, read_at}

-- so much computes what is read
unfoldable reading : Unit {0}
unfolding spell_within spell read_front is_utf8 chars encode
reading = tt

-- an empty buffer
pub empty-reads-nothing : read_at [] 0 ≡ None
unfolding reading
empty-reads-nothing = refl

-- the buffer 02 01 78
abbrev marked_x : List Text
marked_x = (0x01 ∷ 0x78 ∷ []) ∷ []

pub marked_x-bytes : bytes_of marked_x ≡ 0x02 ∷ 0x01 ∷ 0x78 ∷ []
unfolding reading
marked_x-bytes = refl

pub marked_x-reads-x : read_at marked_x 1 ≡ Some (0x78 ∷ [])
unfolding reading
marked_x-reads-x = refl

-- the length 120 passes the end
pub marked_x-passes-the-end : read_at marked_x 2 ≡ None
unfolding reading
marked_x-passes-the-end = refl

-- the buffer 02 61 62: the length 97 passes the end
abbrev two_letters : List Text
two_letters = (0x61 ∷ 0x62 ∷ []) ∷ []

pub two_letters-bytes : bytes_of two_letters ≡ 0x02 ∷ 0x61 ∷ 0x62 ∷ []
unfolding reading
two_letters-bytes = refl

pub two_letters-pass-the-end : read_at two_letters 1 ≡ None
unfolding reading
two_letters-pass-the-end = refl

-- the buffer 03 01 C3 A9: the byte C3 alone is not UTF-8
abbrev cut_letter : List Text
cut_letter = (0x01 ∷ 0xC3 ∷ 0xA9 ∷ []) ∷ []

pub cut_letter-bytes : bytes_of cut_letter ≡ 0x03 ∷ 0x01 ∷ 0xC3 ∷ 0xA9 ∷ []
unfolding reading
cut_letter-bytes = refl

pub cut_letter-is-no-text : read_at cut_letter 1 ≡ None
unfolding reading
cut_letter-is-no-text = refl

-- the buffer 03 C3 80 00: a length has more digits there than it needs
abbrev long_zero : List Text
long_zero = (0xC3 ∷ 0x80 ∷ 0x00 ∷ []) ∷ []

pub long_zero-bytes : bytes_of long_zero ≡ 0x03 ∷ 0xC3 ∷ 0x80 ∷ 0x00 ∷ []
unfolding reading
long_zero-bytes = refl

-- C3 80 00 is the length 67, which passes the end
pub long_zero-passes-the-end : read_at long_zero 1 ≡ None
unfolding reading
long_zero-passes-the-end = refl

pub long_zero-reads-empty : read_at long_zero 2 ≡ Some []
unfolding reading
long_zero-reads-empty = refl

pub long_zero-reads-empty-at-its-end : read_at long_zero 3 ≡ Some []
unfolding reading
long_zero-reads-empty-at-its-end = refl

pub long_zero-ends : read_at long_zero 4 ≡ None
unfolding reading
long_zero-ends = refl

-- the buffer 02 61 01 00 of two entries: a text across both
pub two-entries-read-across : read_at ((0x61 ∷ 0x01 ∷ []) ∷ [] ∷ []) 2 ≡ Some (0x00 ∷ [])
unfolding reading
two-entries-read-across = refl

-- the buffer 0C and six times C3 A9: ten bytes do not end a length
abbrev six_letters : List Text
six_letters = (0xC3 ∷ 0xA9 ∷ 0xC3 ∷ 0xA9 ∷ 0xC3 ∷ 0xA9 ∷ 0xC3 ∷ 0xA9 ∷ 0xC3 ∷ 0xA9 ∷ 0xC3 ∷ 0xA9 ∷ []) ∷ []

pub six_letters-end-no-length : read_at six_letters 1 ≡ None
unfolding reading
six_letters-end-no-length = refl

pub six_letters-end : read_at six_letters 13 ≡ None
unfolding reading
six_letters-end = refl

-- the buffer 0B, five times C3 A9, and 02
abbrev tenth_digit : List Text
tenth_digit = (0xC3 ∷ 0xA9 ∷ 0xC3 ∷ 0xA9 ∷ 0xC3 ∷ 0xA9 ∷ 0xC3 ∷ 0xA9 ∷ 0xC3 ∷ 0xA9 ∷ 0x02 ∷ []) ∷ []

-- ten bytes do not end a length
pub tenth_digit-is-not-the-last : read_at tenth_digit 1 ≡ None
unfolding reading
tenth_digit-is-not-the-last = refl

-- the tenth digit is 2, and the number does not fit 64 bits
pub tenth_digit-does-not-fit : read_at tenth_digit 2 ≡ None
unfolding reading
tenth_digit-does-not-fit = refl

-- the length 2 passes the end
pub tenth_digit-passes-the-end : read_at tenth_digit 11 ≡ None
unfolding reading
tenth_digit-passes-the-end = refl
