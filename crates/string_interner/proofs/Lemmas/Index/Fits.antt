-- A backend that gained an entry: the index still fits, since the texts of its symbols stay.
use Rattle.std.proofs.Common.{◌≡◌, ℕ, Bool, false, cond, List, [], ◌∷◌, Option, Some, None, length, get_or, refl, sym, ap, subst, ◌∙◌, inl, inr}
use Rattle.std.proofs.lemmas.Bool.{cases_lt}
use Rattle.std.proofs.lemmas.List.{get_or_past}
use Rattle.std.proofs.lemmas.List.Elements.{Contains-get_or}
use Rattle.std.specs.List.{Contains}
use Rattle.std.specs.Option.{IsSome, option_and_then, option_map_or}
use Rattle.std.specs.Str.{bytes_eq}
use Rattle.string_interner.specs.Slots.{symbols, first_passing}
use Rattle.string_interner.specs.Index.{Fits, has_text, look_up, text_in}
use Rattle.string_interner.proofs.Lemmas.Index.Slots.{here, there, symbols-in}
use Rattle.string_interner.specs.Text.{Text}

module _ {S : Type 0} where
  pub agree : (p q : S → Bool) (xs : List S) → ((s : S) → Contains xs s → p s ≡ q s) → first_passing p xs ≡ first_passing q xs
  agree p q [] same = refl
  agree p q (x ∷ xs) same =
      ap (λ b. cond b (Some x) (first_passing p xs)) (same x (here x xs))
      ∙ ap (λ o. cond (q x) (Some x) o) (agree p q xs (λ s h. same s (there s x xs h)))

  module _ (entry more : S → Option Text) (slots : List (Option S)) (kept : (s : S) → Contains slots (Some s) → more s ≡ entry s) where
    pub look_up-kept : (q : Text) → look_up more slots q ≡ look_up entry slots q
    look_up-kept q = agree (has_text more q) (has_text entry q) (symbols slots)
        (λ s h. ap (λ o. option_map_or (λ found. bytes_eq found q) o false) (kept s (symbols-in slots s h)))

    text_in-kept : (k : ℕ) → text_in more slots k ≡ text_in entry slots k
    text_in-kept k =
        let by : (o : Option S) → get_or slots k None ≡ o → option_and_then more o ≡ option_and_then entry o = elim [
          | None ↦ λ e. refl
          | Some s ↦ λ e. elim (cases_lt k (length slots)) as (λ _. more s ≡ entry s) [
            | inl l ↦ kept s (subst (Contains slots) e (Contains-get_or slots k None l))
            | inr l ↦ absurd (let f = get_or_past slots k None l in let g : None ≡ Some s = sym f ∙ e in cc)
          ]
        ] in
        by (get_or slots k None) refl

    pub Fits-kept : (code : Text → ℕ) → Fits entry code slots → Fits more code slots
    Fits-kept code f = record {
      entries = λ s h. subst IsSome (sym (kept s h)) (f.entries s h);
      distinct = λ j k t a b. f.distinct j k t (sym (text_in-kept j) ∙ a) (sym (text_in-kept k) ∙ b);
      placed = λ s t h e. f.placed s t h (sym (kept s h) ∙ e);
    }
