-- Symbols put one after another into empty slots.
use Rattle.std.proofs.Common.{◌≡◌, ℕ, zero, suc, ◌+◌, ◌<◌, ◌%◌, List, [], ◌∷◌, ◌++◌, Option, Some, None, length, get_or, take, replicate, refl, sym, ap, subst, ◌∙◌, inl, inr, arith}
use Rattle.std.proofs.lemmas.List.{take_more, length-append, length-take-le, get_or-take}
use Rattle.std.proofs.lemmas.List.Elements.{Contains-get_or, Contains-append_left, Contains-push, Contains-push_cases}
use Rattle.std.specs.List.{Contains}
use Rattle.std.specs.Option.{IsSome, option_and_then}
use Rattle.string_interner.specs.Slots.{symbols, first_passing}
use Rattle.string_interner.specs.Index.{Fits, SameMap, has_text, look_up, text_in, text_of}
use Rattle.string_interner.specs.Probe.{FillsSlot, Rebuilt}
use Rattle.string_interner.proofs.Lemmas.Index.Slots.{none, head_or_tail, Contains-symbols, symbols-in, symbols-append, length-symbols}
use Rattle.string_interner.proofs.Lemmas.Index.LookUp.{FirstIs, first_is, same_first, entry_from_has, at_slot, Fits-one, FillsSlot-fits, FillsSlot-symbols, FillsSlot-cases, FillsSlot-here, FillsSlot-there}
use Rattle.string_interner.specs.Text.{Text}
use Rattle.string_interner.proofs.Lemmas.Index.Inserts.{text_of_is}
use Rattle.string_interner.proofs.Lemmas.Index.Refills.{Fits-none}

-- empty slots have no symbols
pub symbols-replicate : (S : Type 0) (n : ℕ) → symbols {S = S} (replicate n None) ≡ []
symbols-replicate S zero = refl
symbols-replicate S (suc n) = symbols-replicate S n

pub no_symbols : (S : Type 0) (n : ℕ) → length (symbols {S = S} (replicate n None)) ≡ 0
no_symbols S n = ap length (symbols-replicate S n)

module _ {S : Type 0} where
  none_there : (n : ℕ) (s : S) → Contains (replicate n None) (Some s) → ⊥
  none_there zero s h = none (Some s) h
  none_there (suc n) s h = elim (head_or_tail (Some s) None (replicate n None) h) as (λ _. ⊥) [ inl e ↦ cc | inr t ↦ none_there n s t ]

module _ {S : Type 0} (entry : S → Option Text) (code : Text → ℕ) where
  -- empty slots have nothing to move
  pub Rebuilt-start : (n : ℕ) → Rebuilt entry code [] (replicate n None)
  Rebuilt-start n = record {
    fits = Fits-none entry code (replicate n None) (symbols-replicate S n);
    count = no_symbols S n;
    to = λ s h. absurd (none (Some s) h);
    from = λ s h. absurd (none_there n s h);
  }

  pub Rebuilt-none : (xs new : List (Option S)) → Rebuilt entry code xs new → Rebuilt entry code (xs ++ None ∷ []) new
  Rebuilt-none xs new r = record {
    fits = r.fits;
    count = (let a = r.count in let c = ap length (symbols-append xs (None ∷ [])) in let d = length-append (symbols xs) (symbols {S = S} (None ∷ [])) in omega arith);
    to = λ s h. elim (Contains-push_cases xs None (Some s) h) as (λ _. Contains new (Some s)) [ inl o ↦ r.to s o | inr e ↦ absurd (cc) ];
    from = λ s h. Contains-append_left xs (None ∷ []) (Some s) (r.from s h);
  }

  pub Rebuilt-some : (xs old new : List (Option S)) (s : S) (t : Text) → Rebuilt entry code xs old → entry s ≡ Some t
      → look_up entry old t ≡ None → FillsSlot old new (code t % length old) s → Rebuilt entry code (xs ++ Some s ∷ []) new
  Rebuilt-some xs old new s t r is absent p = record {
    fits = FillsSlot-fits old new _ s p entry code r.fits t is absent refl;
    count = (let a = FillsSlot-symbols old new _ s p in let b = r.count in let c = ap length (symbols-append xs (Some s ∷ [])) in let d = length-append (symbols xs) (s ∷ []) in omega arith);
    to = λ u h. elim (Contains-push_cases xs (Some s) (Some u) h) as (λ _. Contains new (Some u)) [
      | inl o ↦ FillsSlot-there old new _ s p u (r.to u o)
      | inr e ↦ (let q : s ≡ u = cc in subst (λ (v : S). Contains new (Some v)) q (FillsSlot-here old new _ s p))
    ];
    from = λ u h. elim (FillsSlot-cases old new _ s p u h) as (λ _. Contains (xs ++ Some s ∷ []) (Some u)) [
      | inl e ↦ subst (λ (v : S). Contains (xs ++ Some s ∷ []) (Some v)) e (Contains-push xs (Some s))
      | inr o ↦ Contains-append_left xs (Some s ∷ []) (Some u) (r.from u o)
    ];
  }

  -- the symbol in a slot is an entry's
  pub slot_entry : (slots : List (Option S)) → Fits entry code slots → (i : ℕ) → i < length slots → (s : S) → get_or slots i None ≡ Some s → IsSome (entry s)
  slot_entry slots fits i l s e = fits.entries s (subst (Contains slots) e (Contains-get_or slots i None l))

  module _ (slots : List (Option S)) (fits : Fits entry code slots) (i : ℕ) (l : i < length slots) (new : List (Option S))
      (r : Rebuilt entry code (take i slots) new) where
    pub skipped : get_or slots i None ≡ None → Rebuilt entry code (take (i + 1) slots) new
    skipped e =
        subst (λ (xs : List (Option S)). Rebuilt entry code xs new)
        (sym (take_more slots i None l ∙ ap (λ o. take i slots ++ o ∷ []) e)) (Rebuilt-none (take i slots) new r)

    -- the text of the i-th symbol is not there yet
    pub not_yet : (s : S) → get_or slots i None ≡ Some s → look_up entry new (text_of entry s) ≡ None
    not_yet s e =
        let t = text_of entry s in
        let there = fits.entries s (subst (Contains slots) e (Contains-get_or slots i None l)) in
        let mine : text_in entry slots i ≡ Some t = ap (option_and_then entry) e ∙ text_of_is entry s there in
        let by : (o : Option S) → FirstIs (has_text entry t) (symbols new) o → o ≡ None = elim [
          | None ↦ λ f. refl
          | Some u ↦ λ f. let h = r.from u (symbols-in new u f.0) in
              let m = length-take-le i slots (let a = l in omega arith) in let below : h.0 < i = (let b = h.1 in omega arith) in
              let k = at_slot entry slots u h.0 (let a = l in omega arith) (sym (get_or-take i slots h.0 (Some u) below) ∙ h.2) t (entry_from_has entry t u f.1) in
              absurd (let q = fits.distinct h.0 i t k mine in omega arith)
        ] in
        by (first_passing (has_text entry t) (symbols new)) (first_is (has_text entry t) (symbols new))

    pub placed_again : (s : S) (more : List (Option S)) → get_or slots i None ≡ Some s → FillsSlot new more (code (text_of entry s) % length new) s
        → Rebuilt entry code (take (i + 1) slots) more
    placed_again s more e p =
        let is_entry : IsSome (entry s) = fits.entries s (subst (Contains slots) e (Contains-get_or slots i None l)) in
        subst (λ (xs : List (Option S)). Rebuilt entry code xs more)
        (sym (take_more slots i None l ∙ ap (λ o. take i slots ++ o ∷ []) e))
        (Rebuilt-some (take i slots) new more s (text_of entry s) r (text_of_is entry s is_entry) (not_yet s e) p)

    pub has_free : length slots < length new → length (symbols new) < length new
    has_free more =
        let a = r.count in let b = length-symbols (take i slots) in let c = length-take-le i slots (let m = l in omega arith) in omega arith

  pub Rebuilt-same : (old new : List (Option S)) → Fits entry code old → Rebuilt entry code old new → SameMap entry old new
  Rebuilt-same old new fits r q =
      same_first (has_text entry q) (symbols new) (symbols old)
      (λ s t h. Contains-symbols old s (r.from s (symbols-in new s h)))
      (λ s t h. Contains-symbols new s (r.to s (symbols-in old s h)))
      (Fits-one entry code old fits q)
