-- How texts lie in one byte buffer: each behind its length in unsigned LEB128; and what is read there at any number.
-- Cited by the model of `BufferBackend` and by its contracts.
use Rattle.std.specs.Prelude.{◌≡◌, ℕ, zero, suc, ◌+◌, ◌<◌, ◌≤◌, ◌^◌, ◌&&◌, List, [], ◌∷◌, ◌++◌, length, take, drop, Option, Some, None, nat_le, if◌then◌else◌, flat_map, sum_by, All}
use Rattle.std.specs.Str.{IsUtf8, is_utf8}
use Rattle.string_interner.specs.Text.{Text}
use Rattle.string_interner.specs.Numbering.{Numbering}
use Rattle.string_interner.specs.Backend.{IsValidList, IsPlace}
use Rattle.string_interner.specs.Spelling.{spell, digits, IsChain, value, front_value, after_front, has_front}

-- an entry: the length of the text, then its bytes
abbrev pub entry_of : Text → List ℕ
entry_of text = spell (length text) ++ text

-- the buffer of a list: one entry after another
abbrev pub bytes_of : List Text → List ℕ
bytes_of texts = flat_map entry_of texts

-- the length of an entry in bytes
abbrev pub entry_len : Text → ℕ
entry_len text = digits (length text) + length text

-- the place of the next entry: the length of the buffer in bytes
abbrev pub place_of : List Text → ℕ
place_of texts = sum_by entry_len texts

-- What is read at byte `n`: the buffer continues there with a spelling, the text and a rest. The spelling is a chain of
-- one to ten bytes whose value is the length of the text, which fits a `usize`, and the text is UTF-8.
pub record Reads (buffer : List ℕ) (n : ℕ) (text : Text) : Type 0 where
  pub spelling : List ℕ
  pub rest : List ℕ
  pub stands : drop n buffer ≡ spelling ++ (text ++ rest)
  pub chain : IsChain spelling
  pub short : length spelling ≤ 10
  pub counts : value spelling ≡ length text
  pub fits : length text < 2 ^ 64
  pub utf8 : IsUtf8 text

-- the same as a function: the text read at the front, if any
unfoldable pub read_front : List ℕ → Option Text
read_front bytes =
    if has_front bytes && (nat_le (front_value bytes) (length (after_front bytes)) && is_utf8 (take (front_value bytes) (after_front bytes)))
    then Some (take (front_value bytes) (after_front bytes)) else None

-- what is read at byte `n` of the buffer of the texts
abbrev pub read_at : List Text → ℕ → Option Text
read_at texts n = read_front (drop n (bytes_of texts))

-- How a `BufferBackend` numbers texts: by the byte at which their entries begin. A text costs the length of its entry.
abbrev pub buffer_numbering : {S : Type 0} → (ℕ → Option S) → (S → ℕ) → Numbering S
buffer_numbering symbol_of number = record {
  symbol_of = symbol_of;
  number = number;
  place = place_of;
  read = read_at;
  cost = entry_len;
}

-- the first `count` texts of a buffer
abbrev pub front_texts : ℕ → List ℕ → List Text
front_texts zero buffer = []
front_texts (suc count) buffer = take (front_value buffer) (after_front buffer) ∷ front_texts count (drop (front_value buffer) (after_front buffer))

-- the invariant of a `BufferBackend`: the buffer is that of the texts, and they are a valid list
pub record IsSpelled {S : Type 0} (symbol_of : ℕ → Option S) (buffer : List ℕ) (texts : List Text) : Type 0 where
  pub bytes_are : buffer ≡ bytes_of texts
  pub valid : IsValidList symbol_of place_of texts

-- the buffer is that of some texts, one of whose entries begins at the place
pub record HasEntryAt (buffer : List ℕ) (at : ℕ) : Type 0 where
  pub texts : List Text
  pub bytes_are : buffer ≡ bytes_of texts
  pub utf8 : All IsUtf8 texts
  pub place : IsPlace place_of texts at
