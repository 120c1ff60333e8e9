-- What a put of an entry's symbol does to the map.
use Rattle.std.proofs.Common.{◌≡◌, ℕ, ◌%◌, true, List, [], Option, Some, None, length, refl, sym, subst, ap, ◌∙◌}
use Rattle.std.specs.Option.{IsSome, is_some, unwrap_or}
use Rattle.string_interner.specs.Index.{AddsPair, Fits, IsAbsent, text_of}
use Rattle.string_interner.specs.Probe.{FillsSlot}
use Rattle.string_interner.specs.Text.{Text}
use Rattle.string_interner.proofs.Lemmas.Index.LookUp.{FillsSlot-fits, FillsSlot-look_up}

module _ {S : Type 0} (entry : S → Option Text) where
  pub text_of_is : (s : S) → IsSome (entry s) → entry s ≡ Some (text_of entry s)
  text_of_is s h =
      let by : (o : Option Text) → is_some o ≡ true → o ≡ Some (unwrap_or o []) = elim [ None ↦ λ e. cc | Some t ↦ λ e. refl ] in
      by (entry s) h

  module _ (code : Text → ℕ) (old new : List (Option S)) (symbol : S) (fits : Fits entry code old) (absent : IsAbsent entry old symbol)
      (puts : FillsSlot old new (code (text_of entry symbol) % length old) symbol) where
    pub Fits-put : Fits entry code new
    Fits-put = FillsSlot-fits old new _ symbol puts entry code fits (text_of entry symbol) (text_of_is symbol absent.is_entry) absent.new_text refl

    pub AddsPair-put : AddsPair entry old new symbol
    AddsPair-put = FillsSlot-look_up old new _ symbol puts entry code fits (text_of entry symbol) (text_of_is symbol absent.is_entry) absent.new_text refl

-- what is put by a code is put by the code that this is
pub puts_at : {S : Type 0} (old new : List (Option S)) (m n : ℕ) (symbol : S) → m ≡ n → FillsSlot old new (m % length old) symbol → FillsSlot old new (n % length old) symbol
puts_at old new m n symbol e p = subst (λ k. FillsSlot old new (k % length old) symbol) e p

-- and by another code that leads to the same home
pub puts_home : {S : Type 0} (old new : List (Option S)) (m n count : ℕ) (symbol : S) → length old ≡ count → m % count ≡ n % count
    → FillsSlot old new (m % length old) symbol → FillsSlot old new (n % length old) symbol
puts_home old new m n count symbol e f p = subst (λ (h : ℕ). FillsSlot old new h symbol) (ap (λ k. m % k) e ∙ f ∙ ap (λ k. n % k) (sym e)) p
