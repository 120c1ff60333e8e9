-- The JSON forms of a list of texts and of a symbol, and reading them.
-- Cited by `to_json`, by `from_json` and `from_json_exact` and the calls that read elements for them, and by `symbol_to_json` and
-- `symbol_from_json`.
use Rattle.std.specs.Prelude.{◌≡◌, ℕ, ◌+◌, List, [], map, Option, MatchOption, MatchResult, option_and_then, Result, Ok, Err, IsOkAnd, ⊤}
use Rattle.std.specs.Option.{ok_or, option_map_or}
use Rattle.serde_json.specs.Data.{Data, number, unsigned, string, array, Items, no_items, item}
use Rattle.serde_json.specs.Find.{as_array, as_number, as_str, as_u64}
use Rattle.serde_json.specs.View.{items_of}
use Rattle.string_interner.specs.Text.{Text, first}
use Rattle.string_interner.specs.Numbering.{Numbering}
use Rattle.string_interner.specs.Backend.{Appends}
use Rattle.string_interner.specs.SlotRule.{SlotRule}
use Rattle.string_interner.specs.Interner.{IsInternerList, InternerContents, Interns, HasLeastSlots}
use Rattle.string_interner.specs.declared.backend.InternError.{InternError}
use Rattle.string_interner.specs.declared.backend.InternError.TheVariants.{NoSymbol as InternNoSymbol, Memory as InternMemory}
use Rattle.string_interner.specs.declared.json.JsonError.{JsonError}
use Rattle.string_interner.specs.declared.json.JsonError.TheVariants.{NoSymbol, Memory, NotAList, NotAText, Repeated, NotANumber}

-- the JSON form of a list of texts: the array of the texts in order, each a JSON string
abbrev pub json_of_texts : List Text → Data
json_of_texts texts = array (items_of (map string texts))

-- the JSON form of a symbol that has this number
abbrev pub json_of_number : ℕ → Data
json_of_number n = number (unsigned n)

-- the error of an element whose text an interner refuses
abbrev pub refused : InternError → JsonError
refused InternNoSymbol = NoSymbol
refused (InternMemory error) = Memory error

-- what comes of reading into an interner: the interner as it is then, or why reading failed
abbrev pub read_into : InternerContents → Result (Unit {0}) JsonError → Result InternerContents JsonError
read_into interner (Ok _) = Ok interner
read_into interner (Err error) = Err error

-- the slots are the least for the texts, if they were before
abbrev pub KeepsLeastSlots : SlotRule → InternerContents → InternerContents → Type 0
KeepsLeastSlots rule old new = HasLeastSlots rule old → HasLeastSlots rule new

-- the symbol whose number the JSON value is, or the error
abbrev pub symbol_read : {S : Type 0} → (ℕ → Option S) → Data → Result S JsonError
symbol_read symbol_of value = option_map_or (λ n. ok_or (symbol_of n) NoSymbol) (option_and_then as_u64 (as_number value)) (Err NotANumber)

module _ {S : Type 0} (numbering : Numbering S) where
  -- The elements, the first of which has this index, are read into the old list in order, with this outcome: a string
  -- is interned, and the first element that fails decides.
  abbrev pub ReadsElements : List Text → ℕ → Items → Result InternerContents JsonError → Type 0
  ReadsElements old index no_items outcome = IsOkAnd outcome (λ interner. interner.texts ≡ old)
  ReadsElements old index (item element rest) outcome = MatchOption (as_str element)
      (outcome ≡ Err (NotAText index))
      (λ text. (interned : Result S InternError) × (mid : List Text) × Interns numbering old text interned mid
      × MatchResult interned (λ _. ReadsElements mid (index + 1) rest outcome) (λ error. outcome ≡ Err (refused error)))

  -- The same where all must differ: the old list are the elements before these. A string equal to one of them fails,
  -- and any other is appended.
  abbrev pub ReadsElementsExactly : List Text → ℕ → Items → Result InternerContents JsonError → Type 0
  ReadsElementsExactly old index no_items outcome = IsOkAnd outcome (λ interner. interner.texts ≡ old)
  ReadsElementsExactly old index (item element rest) outcome = MatchOption (as_str element)
      (outcome ≡ Err (NotAText index))
      (λ text. MatchOption (first old text)
      ((interned : Result S InternError) × (mid : List Text) × Appends numbering.symbol_of numbering.place old text interned mid
      × MatchResult interned (λ _. ReadsElementsExactly mid (index + 1) rest outcome) (λ error. outcome ≡ Err (refused error)))
      (λ _. outcome ≡ Err (Repeated index)))

  -- the elements of an array are read into the empty list, and any other value fails
  abbrev pub ReadsArray : Data → Result InternerContents JsonError → Type 0
  ReadsArray value outcome = MatchOption (as_array value) (outcome ≡ Err NotAList) (λ elements. ReadsElements [] 0 elements outcome)

  -- the same, where no string may be equal to an earlier one
  abbrev pub ReadsArrayExactly : Data → Result InternerContents JsonError → Type 0
  ReadsArrayExactly value outcome = MatchOption (as_array value) (outcome ≡ Err NotAList) (λ elements. ReadsElementsExactly [] 0 elements outcome)

-- the outcome of reading a list back: the list, or `Memory`
abbrev pub GivesBack : List Text → Result InternerContents JsonError → Type 0
GivesBack texts (Ok interner) = interner.texts ≡ texts
GivesBack texts (Err (Memory _)) = ⊤
GivesBack texts (Err _) = ⊥

-- if the value is what `to_json` returns for a list that an interner may have, reading it gives that list back
abbrev pub ReadsBack : {S : Type 0} → Numbering S → Data → Result InternerContents JsonError → Type 0
ReadsBack numbering value outcome = (texts : List Text) → IsInternerList numbering texts → value ≡ json_of_texts texts → GivesBack texts outcome

-- the value is what `to_json` returns for the texts of the interner
abbrev pub HasJsonForm : Data → InternerContents → Type 0
HasJsonForm value interner = value ≡ json_of_texts interner.texts
