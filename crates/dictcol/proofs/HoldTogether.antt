-- What inputs hold, one behind the other.
use Rattle.std.proofs.Common.{◌≡◌, ℕ, ◌+◌, ◌≤◌, ◌<◌, List, [], ◌∷◌, ◌++◌, length, map, take, get_or, Option, Some, option_map, refl, sym, ap, ◌∙◌, arith}
use Rattle.std.specs.Prelude.{IfSome, slice_get}
use Rattle.std.proofs.lemmas.List.{append-nil, append_assoc, map_more}
use Rattle.std.proofs.lemmas.Option.{slice_get-map, slice_get-get_or}
use Rattle.string_interner.specs.Text.{Text}
use Rattle.dictcol.specs.File.{DecodesFile, HoldTogether}

-- one more input
pub together-more : (inputs : List (Option Text)) (input : Option Text) (text more : Text) → HoldTogether inputs text → IfSome input (λ file. DecodesFile file more)
    → HoldTogether (inputs ++ input ∷ []) (text ++ more)
together-more [] input text more none one = (more, [], one, refl, ap (λ front. front ++ more) none ∙ sym (append-nil more))
together-more (first ∷ inputs) input text more (front, rest, holds, others, whole) one =
    (front, rest ++ more, holds, together-more inputs input rest more others one, ap (λ front. front ++ more) whole ∙ append_assoc front rest more)

-- the inputs from an index on are still as they were
abbrev pub AreAhead : {R : Type 0} → List R → List R → ℕ → Type 0
AreAhead {R} inputs now at = (i : ℕ) (d : R) → at ≤ i → get_or now i d ≡ get_or inputs i d

module _ {R : Type 0} (known : R → Option Text) (inputs now : List R) (at : ℕ) (input : R) (ahead : AreAhead inputs now at) (within : at < length inputs) (is : input ≡ get_or now at input) where
  same : get_or inputs at input ≡ input
  same = sym (ahead at input (omega arith)) ∙ sym is

  -- the input with the index
  pub input-at : slice_get (map known inputs) at ≡ Some (known input)
  input-at = slice_get-map known inputs at ∙ ap (option_map known) (slice_get-get_or inputs at input within) ∙ ap (λ r. Some (known r)) same

  pub inputs-more : map known (take (at + 1) inputs) ≡ map known (take at inputs) ++ known input ∷ []
  inputs-more = map_more known inputs at input within ∙ ap (λ r. map known (take at inputs) ++ known r ∷ []) same
