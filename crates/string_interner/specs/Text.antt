-- Texts, lists of texts, and the first index of a text in a list.
-- Cited by every contract that speaks of the list of a backend or an interner.
use Rattle.std.specs.Prelude.{◌≢◌, ℕ, Bool, List, AllPairs, Option, position}
use Rattle.std.specs.Str.{bytes_eq}
use Rattle.std.specs.Cmp.Lexicographic.{pointwise}
use Rattle.std.specs.Cmp.{IsEquivalence}
use Rattle.std.proofs.lemmas.Cmp.{lists_equiv, nat_list_eq_equiv}

-- a text is its bytes; that they are UTF-8 is `IsUtf8`
abbrev pub Text : Type 0
Text = List ℕ

-- The index of the first entry equal to the text. A text that has one is known to the list, any other is new.
abbrev pub first : List Text → Text → Option ℕ
first texts text = position (λ entry. bytes_eq entry text) texts

-- no text occurs twice
abbrev pub IsDistinct : List Text → Type 0
IsDistinct texts = AllPairs (λ a b. a ≢ b) texts

-- whether two lists are equal, text by text
abbrev pub texts_eq : List Text → List Text → Bool
texts_eq = pointwise bytes_eq

pub texts_eq-IsEquivalence : IsEquivalence texts_eq
texts_eq-IsEquivalence = lists_equiv nat_list_eq_equiv
