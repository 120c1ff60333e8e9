-- The map from text to symbol that slots hold, and when it fits a backend's entries and a hasher.
-- Cited by `Table` and by all that stands on it. Below, `entry` gives the text of the entry that has a symbol, if one
-- has, and `code` the code of a text under a hasher.
use Rattle.std.specs.Prelude.{◌≡◌, ℕ, List, [], slice_index_or, Contains, Bool, false, if◌then◌else◌, Option, Some, None, IsSome, unwrap_or, option_and_then}
use Rattle.std.specs.Option.{option_map_or}
use Rattle.std.specs.Str.{bytes_eq}
use Rattle.string_interner.specs.Text.{Text}
use Rattle.string_interner.specs.Slots.{symbols, probe_cluster, first_passing}

module _ {S : Type 0} (entry : S → Option Text) where
  -- whether the symbol's entry has this text
  abbrev pub has_text : Text → S → Bool
  has_text text symbol = option_map_or (λ found. bytes_eq found text) (entry symbol) false

  -- the text of an entry's symbol
  abbrev pub text_of : S → Text
  text_of symbol = unwrap_or (entry symbol) []

  -- the text of the symbol in slot `k`
  abbrev pub text_in : List (Option S) → ℕ → Option Text
  text_in slots k = option_and_then entry (slice_index_or slots k None)

  -- the map from text to symbol: the symbol in the slots that has this text
  abbrev pub look_up : List (Option S) → Text → Option S
  look_up slots text = first_passing (has_text text) (symbols slots)

  -- the two are one map
  abbrev pub SameMap : List (Option S) → List (Option S) → Type 0
  SameMap old new = (text : Text) → look_up new text ≡ look_up old text

  -- the new map is the old one with this symbol under its text
  abbrev pub AddsPair : List (Option S) → List (Option S) → S → Type 0
  AddsPair old new symbol =
      (text : Text) → look_up new text ≡ (if bytes_eq text (text_of symbol) then Some symbol else look_up old text)

  -- the new map is the old one without this symbol's text
  abbrev pub RemovesPair : List (Option S) → List (Option S) → S → Type 0
  RemovesPair old new symbol =
      (text : Text) → look_up new text ≡ (if bytes_eq text (text_of symbol) then None else look_up old text)

  -- the symbol is an entry's, and its text is not in the map
  pub record IsAbsent (slots : List (Option S)) (symbol : S) : Type 0 where
    pub is_entry : IsSome (entry symbol)
    pub new_text : look_up slots (text_of symbol) ≡ None

  module _ (code : Text → ℕ) where
    -- the slots fit the entries and the hasher
    pub record Fits (slots : List (Option S)) : Type 0 where
      -- each symbol is an entry's
      pub entries : (symbol : S) → Contains slots (Some symbol) → IsSome (entry symbol)
      -- no two slots have one text
      pub distinct : (j k : ℕ) (text : Text) → text_in slots j ≡ Some text → text_in slots k ≡ Some text → j ≡ k
      -- each symbol is in the probe cluster of its text
      pub placed : (symbol : S) (text : Text) → Contains slots (Some symbol) → entry symbol ≡ Some text → Contains (probe_cluster slots (code text)) symbol
