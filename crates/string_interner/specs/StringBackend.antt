-- How texts lie in one string: joined, with a list of their ends.
-- Cited by the models and contracts of `StringBackend`, and by the functions over its list of ends.
use Rattle.std.specs.Prelude.{◌≡◌, ℕ, zero, suc, ◌+◌, ◌-◌, List, [], ◌∷◌, ◌++◌, length, take, drop, slice_index, Option, All, max}
use Rattle.std.specs.Str.{IsUtf8}
use Rattle.string_interner.specs.Text.{Text}
use Rattle.string_interner.specs.Backend.{IsValidList}
use Rattle.string_interner.specs.Numbering.{Numbering, by_index}

-- How a `StringBackend` numbers texts: by their index. A text costs its length in bytes, and at least five.
abbrev pub string_numbering : {S : Type 0} → (ℕ → Option S) → (S → ℕ) → Numbering S
string_numbering symbol_of number = by_index symbol_of number (λ text. max 5 (length text))

-- the texts between the ends, the first text beginning at `from`
abbrev pub cut : ℕ → List ℕ → List ℕ → List Text
cut from bytes [] = []
cut from bytes (e ∷ es) = take (e - from) bytes ∷ cut e (drop (e - from) bytes) es

-- the texts, one after another
abbrev pub joined : List Text → List ℕ
joined [] = []
joined (text ∷ texts) = text ++ joined texts

-- where each text ends, the first beginning at `from`
abbrev pub ends_of : ℕ → List Text → List ℕ
ends_of from [] = []
ends_of from (text ∷ texts) = (from + length text) ∷ ends_of (from + length text) texts

-- where text `i` begins: at the end before it, or at 0
abbrev pub start_at : List ℕ → ℕ → ℕ
start_at ends zero = 0
start_at ends (suc i) = slice_index ends i

-- where text `i` begins and ends
abbrev pub span_of : List ℕ → ℕ → ℕ × ℕ
span_of ends i = (start_at ends i, slice_index ends i)

-- the bytes and the ends are those of the texts
pub record IsCut (bytes ends : List ℕ) (texts : List Text) : Type 0 where
  pub bytes_are : bytes ≡ joined texts
  pub ends_are : ends ≡ ends_of 0 texts
  pub utf8 : All IsUtf8 texts

-- and they are a valid list, where a place is an index
pub record IsJoined {S : Type 0} (symbol_of : ℕ → Option S) (bytes ends : List ℕ) (texts : List Text) : Type 0 where
  pub parts : IsCut bytes ends texts
  pub valid : IsValidList symbol_of length texts
