-- A column: a list of rows, each a text, with a dictionary of the distinct ones and a code for each row.
-- Cited by the model and the contracts of `Column`.
use Rattle.std.specs.Prelude.{◌≡◌, ℕ, List, [], ◌∷◌, ◌++◌, map, slice_get, slice_index_or, Option, Some, None, Result, Ok, Err, MatchResult}
use Rattle.std.specs.Borrow.{Bor}
use Rattle.std.specs.List.{AllZip, count_by}
use Rattle.std.specs.Str.{bytes_eq}
use Rattle.string_interner.specs.Text.{Text}
use Rattle.string_interner.specs.Numbering.{Numbering}
use Rattle.string_interner.specs.Extend.{fresh, texts_of}
use Rattle.string_interner.specs.declared.backend.InternError.{InternError}
use Rattle.string_column.specs.Entries.{IsRefusal}

-- the distinct rows, in the order of first appearance
abbrev pub dictionary_of : List Text → List Text
dictionary_of rows = fresh [] rows

-- how many rows each entry of the dictionary has
abbrev pub counts_of : List Text → List ℕ
counts_of rows = map (λ entry. count_by (λ row. bytes_eq row entry) rows) (dictionary_of rows)

-- each code is the index of its row in the dictionary
abbrev pub AreCodes : List Text → List ℕ → List Text → Type 0
AreCodes dictionary codes rows = AllZip (λ code row. slice_get dictionary code ≡ Some row) codes rows

-- the entries that have these codes
abbrev pub rows_of : List Text → List ℕ → List Text
rows_of dictionary codes = map (λ code. slice_index_or dictionary code []) codes

-- the codes are those of the rows, and the dictionary is that of the rows
pub record IsColumn (dictionary : List Text) (codes : List ℕ) (rows : List Text) : Type 0 where
  pub codes_are : AreCodes dictionary codes rows
  pub dictionary_is : dictionary ≡ dictionary_of rows

module _ {S : Type 0} (numbering : Numbering S) where
  -- `Ok` has the code of a row that was put last. On `Err` nothing changes.
  abbrev pub AppendsRow : List Text → Text → Result ℕ InternError → List Text → Type 0
  AppendsRow old row (Ok code) new = (slice_get (dictionary_of new) code ≡ Some row) × (new ≡ old ++ row ∷ [])
  AppendsRow old row (Err error) new = IsRefusal numbering (dictionary_of old) row error × (new ≡ old)

  -- Texts that are yielded are put last: all that are, or those before the first that is refused.
  abbrev pub AppendsYielded : (List (Bor Text) → Option (Bor Text) → Type 0) → List Text → Result (Unit {0}) InternError → List Text → Type 0
  AppendsYielded yields old outcome new = (front : List (Bor Text)) × (new ≡ old ++ texts_of front) × MatchResult outcome
      (λ _. yields front None)
      (λ error. (refused : Bor Text) × yields front (Some refused) × IsRefusal numbering (dictionary_of new) refused.now error)

  -- The rows of another column are put last: all of them, or those before the first that is refused.
  abbrev pub AppendsRows : List Text → List Text → Result (Unit {0}) InternError → List Text → Type 0
  AppendsRows old rows (Ok _) new = new ≡ old ++ rows
  AppendsRows old rows (Err error) new = (front : List Text) × (refused : Text) × (rest : List Text)
      × (rows ≡ front ++ refused ∷ rest) × (new ≡ old ++ front) × IsRefusal numbering (dictionary_of new) refused error

  -- A column of these rows is made, or its rows are refused as rows that are appended to none.
  abbrev pub MakesColumn : List Text → Result (List Text) InternError → Type 0
  MakesColumn rows outcome = MatchResult outcome (λ column. column ≡ rows) (λ error. (front : List Text) × AppendsRows [] rows (Err error) front)
