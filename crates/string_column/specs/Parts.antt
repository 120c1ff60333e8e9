-- A column that is made of a dictionary and codes from outside, and what can be wrong with them.
-- Cited by `Column::from_parts` and `Column::from_interner`.
use Rattle.std.specs.Prelude.{◌≡◌, ℕ, ◌<◌, ◌≤◌, List, [], ◌∷◌, ◌++◌, length, take, slice_get, All, Contains, Some, IsSome, Result, Ok, Err, ⊤}
use Rattle.string_interner.specs.Text.{Text, IsDistinct, first}
use Rattle.string_interner.specs.Numbering.{Numbering}
use Rattle.string_interner.specs.declared.backend.InternError.{InternError}
use Rattle.string_interner.specs.declared.backend.InternError.TheVariants.{NoSymbol as InternNoSymbol, Memory as InternMemory}
use Rattle.string_column.specs.Entries.{LacksSymbol}
use Rattle.string_column.specs.Column.{AreCodes}
use Rattle.string_column.specs.declared.rows.parts.PartsError.{PartsError}
use Rattle.string_column.specs.declared.rows.parts.PartsError.TheVariants.{Repeated, NoEntry, NoSymbol, Memory}

-- the entry at this index equals an earlier one, and is the first that does
pub record IsRepeat (entries : List Text) (index : ℕ) : Type 0 where
  pub entry : Text
  pub stands : slice_get entries index ≡ Some entry
  pub repeats : IsSome (first (take index entries) entry)
  pub distinct : IsDistinct (take index entries)

-- the code of this row is no index of so many entries, and is the first that is none
pub record IsOutside (count : ℕ) (codes : List ℕ) (row : ℕ) : Type 0 where
  pub code : ℕ
  pub stands : slice_get codes row ≡ Some code
  pub outside : count ≤ code
  pub within : All (λ c. c < count) (take row codes)

-- what may be wrong with the codes: one is no index of so many entries
abbrev pub IsCodeFault : ℕ → List ℕ → PartsError → Type 0
IsCodeFault count codes (NoEntry row) = IsOutside count codes row
IsCodeFault count codes (Repeated index) = ⊥
IsCodeFault count codes NoSymbol = ⊥
IsCodeFault count codes (Memory _) = ⊥

-- What may be wrong with the entries. There is no symbol for one of them, behind some others that are distinct.
abbrev pub IsEntryFault : {S : Type 0} → Numbering S → List Text → PartsError → Type 0
IsEntryFault numbering entries (Repeated index) = IsRepeat entries index
IsEntryFault numbering entries (NoEntry row) = ⊥
IsEntryFault numbering entries NoSymbol = (texts : List Text) × (entry : Text) × IsDistinct texts × All (Contains entries) (texts ++ entry ∷ []) × LacksSymbol numbering texts entry
IsEntryFault numbering entries (Memory _) = ⊤

-- `Ok` has the rows that the codes read. A repeated entry is the first fault, and then a code that is no index.
abbrev pub IsMadeOf : {S : Type 0} → Numbering S → List Text → List ℕ → Result (List Text) PartsError → Type 0
IsMadeOf numbering entries codes (Ok rows) = IsDistinct entries × AreCodes entries codes rows
IsMadeOf numbering entries codes (Err (NoEntry row)) = IsDistinct entries × IsOutside (length entries) codes row
IsMadeOf numbering entries codes (Err error) = IsEntryFault numbering entries error

-- the error of interning, as one of the parts
abbrev pub refused : InternError → PartsError
refused InternNoSymbol = NoSymbol
refused (InternMemory error) = Memory error
