-- The tokens of a file in the form that `encode` writes.
-- Cited by `stream`.
use Rattle.std.specs.Prelude.{◌≡◌, ℕ, List, [], ◌∷◌, ◌++◌, map, Bool, false, codes, Some}
use Rattle.std.specs.List.{AllZip, list_any}
use Rattle.json.specs.Token.{Token, begin_object, end_object, begin_array, end_array, key, string, number, boolean}
use Rattle.serde_json.specs.Data.{unsigned}
use Rattle.serde_json.specs.Read.{number_of}
use Rattle.string_interner.specs.Text.{Text, IsDistinct}
use Rattle.dictcol.specs.File.{HaveEntries}
use Rattle.dictcol.specs.Lines.{has_newline}

-- the numbers are written so
abbrev pub AreIndexes : List Text → List ℕ → Type 0
AreIndexes numbers indexes = AllZip (λ text index. number_of text ≡ Some (unsigned index)) numbers indexes

-- what is in front of the texts, and then these tokens
abbrev pub behind_front : List Token → List Token
behind_front ts = begin_object ∷ key (codes "dictionary") ∷ begin_array ∷ ts

-- an object with these texts, this boolean and these numbers
abbrev pub stream : List Text → Bool → List Text → List Token
stream dictionary is_ended numbers =
    behind_front (map string dictionary ++ end_array ∷ key (codes "final_newline") ∷ boolean is_ended
    ∷ key (codes "lines") ∷ begin_array ∷ (map number numbers ++ end_array ∷ end_object ∷ []))

-- The tokens are those of a file with these texts, for each line the index of its text, and whether the last line ends in a newline.
pub record StreamHolds (ts : List Token) (dictionary : List Text) (indexes : List ℕ) (is_ended : Bool) : Type 0 where
  pub numbers : List Text
  pub tokens_are : ts ≡ stream dictionary is_ended numbers
  pub indexes_are : AreIndexes numbers indexes
  pub distinct : IsDistinct dictionary
  pub each_a_line : list_any has_newline dictionary ≡ false
  pub within : HaveEntries dictionary indexes
