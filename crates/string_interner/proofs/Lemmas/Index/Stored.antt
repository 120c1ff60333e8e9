-- Slots that are stored as numbers and as other slots.
use Rattle.std.proofs.Common.{◌≡◌, ℕ, zero, suc, ◌-◌, ◌<◌, ◌^◌, ◌⊎◌, List, [], ◌∷◌, Option, Some, None, length, get_or, replicate, set, refl, sym, ap, ◌∙◌, inl, inr, arith}
use Rattle.std.proofs.lemmas.List.{length-replicate, length-set}
use Rattle.std.specs.Option.{IsNone, IsSome, option_or}
use Rattle.string_interner.specs.Slots.{AreStored, slots_stored}
use Rattle.string_interner.specs.Symbol.{AreNarrow}

module _ {S : Type 0} (symbol_of : ℕ → Option S) where
  or-none : (o : Option S) → o ≡ option_or o None
  or-none None = refl
  or-none (Some s) = refl

  pub is-none : (o : Option S) → IsNone o → o ≡ None
  is-none None h = refl
  is-none (Some s) h = cc

  -- as many slots as numbers, where there are as many other slots, or none
  pub length-numbers : (numbers : List ℕ) (others : List (Option S)) → (length others ≡ length numbers) ⊎ (others ≡ []) → length (slots_stored symbol_of numbers others) ≡ length numbers
  length-numbers [] others (inl e) = e
  length-numbers [] others (inr e) = ap length e
  length-numbers (n ∷ ns) [] kind = ap suc (length-numbers ns [] (inr refl))
  length-numbers (n ∷ ns) (o ∷ os) (inl e) = ap suc (length-numbers ns os (inl (omega (arith, e))))
  length-numbers (n ∷ ns) (o ∷ os) (inr e) = absurd (let l = ap length e in omega arith)

  -- a slot has the symbol of its number, or else what the other list has
  pub stored_at : (numbers : List ℕ) (others : List (Option S)) (k d : ℕ) → k < length numbers
      → get_or (slots_stored symbol_of numbers others) k None ≡ option_or (symbol_of (get_or numbers k d)) (get_or others k None)
  stored_at [] others k d l = absurd (omega arith)
  stored_at (n ∷ ns) [] zero d l = or-none (symbol_of n)
  stored_at (n ∷ ns) [] (suc k) d l = stored_at ns [] k d (omega arith)
  stored_at (n ∷ ns) (o ∷ os) zero d l = refl
  stored_at (n ∷ ns) (o ∷ os) (suc k) d l = stored_at ns os k d (omega arith)

  -- a number is set
  pub set-number : (numbers : List ℕ) (others : List (Option S)) (k number : ℕ) (symbol : S) → k < length numbers → symbol_of number ≡ Some symbol
      → slots_stored symbol_of (set numbers k number) others ≡ set (slots_stored symbol_of numbers others) k (Some symbol)
  set-number [] others k number symbol l found = absurd (omega arith)
  set-number (n ∷ ns) [] zero number symbol l found = rw found refl
  set-number (n ∷ ns) [] (suc k) number symbol l found = ap (λ rest. symbol_of n ∷ rest) (set-number ns [] k number symbol (omega arith) found)
  set-number (n ∷ ns) (o ∷ os) zero number symbol l found = rw found refl
  set-number (n ∷ ns) (o ∷ os) (suc k) number symbol l found = ap (λ rest. option_or (symbol_of n) o ∷ rest) (set-number ns os k number symbol (omega arith) found)

  -- another slot is set, where the number has no symbol
  pub set-other : (numbers : List ℕ) (others : List (Option S)) (k number : ℕ) (symbol : S) → k < length numbers → k < length others → symbol_of number ≡ None
      → slots_stored symbol_of (set numbers k number) (set others k (Some symbol)) ≡ set (slots_stored symbol_of numbers others) k (Some symbol)
  set-other [] others k number symbol l m free = absurd (omega arith)
  set-other (n ∷ ns) [] k number symbol l m free = absurd (omega arith)
  set-other (n ∷ ns) (o ∷ os) zero number symbol l m free = rw free refl
  set-other (n ∷ ns) (o ∷ os) (suc k) number symbol l m free = ap (λ rest. option_or (symbol_of n) o ∷ rest) (set-other ns os k number symbol (omega arith) (omega arith) free)

  -- a slot is emptied
  pub set-none : (numbers : List ℕ) (others : List (Option S)) (k number : ℕ) → symbol_of number ≡ None
      → slots_stored symbol_of (set numbers k number) (set others k None) ≡ set (slots_stored symbol_of numbers others) k None
  set-none [] others k number free = refl
  set-none (n ∷ ns) [] zero number free = rw free refl
  set-none (n ∷ ns) [] (suc k) number free = ap (λ rest. symbol_of n ∷ rest) (set-none ns [] k number free)
  set-none (n ∷ ns) (o ∷ os) zero number free = rw free refl
  set-none (n ∷ ns) (o ∷ os) (suc k) number free = ap (λ rest. option_or (symbol_of n) o ∷ rest) (set-none ns os k number free)

  -- nothing is set in a list without elements
  pub set-past : (others : List (Option S)) (k : ℕ) → length others ≡ 0 → others ≡ set others k None
  set-past [] k e = refl
  set-past (o ∷ os) k e = absurd (omega arith)

  none_stays : (others : List (Option S)) (at k : ℕ) → IsNone (get_or others k None) → IsNone (get_or (set others at None) k None)
  none_stays [] at k h = h
  none_stays (o ∷ os) zero zero h = refl
  none_stays (o ∷ os) zero (suc k) h = h
  none_stays (o ∷ os) (suc at) zero h = h
  none_stays (o ∷ os) (suc at) (suc k) h = none_stays os at k h

  pub none-stored : (numbers : List ℕ) (others : List (Option S)) (at number : ℕ) → AreStored symbol_of numbers others → AreStored symbol_of (set numbers at number) (set others at None)
  none-stored numbers others at number stored = record {
    absent = λ some. rw (stored.absent some) refl;
    counted = λ free. elim (stored.counted free) as (λ _. (length (set others at None) ≡ length (set numbers at number)) ⊎ ((set others at None ≡ []) × AreNarrow symbol_of))
        [ inl e ↦ inl (length-set others at None ∙ e ∙ sym (length-set numbers at number)) | inr e ↦ inr (rw e.0 refl, e.1) ];
    unused = λ narrow k. none_stays others at k (stored.unused narrow k);
  }

  -- numbers without symbols beside empty slots
  pub all_empty : (count others number : ℕ) → symbol_of number ≡ None → (others ≡ count) ⊎ (others ≡ 0)
      → slots_stored symbol_of (replicate count number) (replicate others None) ≡ replicate count None
  all_empty zero others number free (inl e) = ap (λ n. replicate n None) e
  all_empty zero others number free (inr e) = ap (λ n. replicate n None) e
  all_empty (suc count) zero number free kind = rw free (ap (λ rest. None ∷ rest) (all_empty count zero number free (inr refl)))
  all_empty (suc count) (suc others) number free (inl e) = rw free (ap (λ rest. None ∷ rest) (all_empty count others number free (inl (omega (arith, e)))))
  all_empty (suc count) (suc others) number free (inr e) = absurd (omega arith)

  pub none_beyond : (others : List (Option S)) (k : ℕ) → length others ≡ 0 → get_or others k None ≡ None
  none_beyond [] k empty = refl
  none_beyond (o ∷ os) k empty = absurd (omega arith)

  none_in : (count k : ℕ) → get_or (replicate {A = Option S} count None) k None ≡ None
  none_in zero k = refl
  none_in (suc count) zero = refl
  none_in (suc count) (suc k) = none_in count k

  module _ (numbers : List ℕ) (others slots : List (Option S)) (stored : AreStored symbol_of numbers others) (is : slots_stored symbol_of numbers others ≡ slots) where
    kind : IsNone (symbol_of (2 ^ 32 - 1)) → (length others ≡ length numbers) ⊎ (others ≡ [])
    kind free = elim (stored.counted free) as (λ _. (length others ≡ length numbers) ⊎ (others ≡ [])) [ inl e ↦ inl e | inr e ↦ inr e.0 ]

    pub length-is : IsNone (symbol_of (2 ^ 32 - 1)) → length slots ≡ length numbers
    length-is free = ap length (sym is) ∙ length-numbers numbers others (kind free)

    pub within-others : (at : ℕ) → IsNone (symbol_of (2 ^ 32 - 1)) → at < length slots → (¬ ((others ≡ []) × AreNarrow symbol_of)) → at < length others
    within-others at free within some =
        let l = length-is free in
        elim (stored.counted free) as (λ _. at < length others) [ inl e ↦ omega (arith, e, l) | inr e ↦ absurd (some e) ]

    pub reads : (at d : ℕ) → IsNone (symbol_of (2 ^ 32 - 1)) → at < length slots → get_or slots at None ≡ option_or (symbol_of (get_or numbers at d)) (get_or others at None)
    reads at d free within = ap (λ xs. get_or xs at None) (sym is) ∙ stored_at numbers others at d (let l = length-is free in omega (arith, l))

  pub cleared : (numbers : List ℕ) (others : List (Option S)) → AreStored symbol_of numbers others
      → slots_stored symbol_of (replicate (length numbers) (2 ^ 32 - 1)) (replicate (length others) None) ≡ replicate (length (slots_stored symbol_of numbers others)) None
  cleared numbers others stored = go (symbol_of (2 ^ 32 - 1)) refl
    where
      go : (o : Option S) → symbol_of (2 ^ 32 - 1) ≡ o
          → slots_stored symbol_of (replicate (length numbers) (2 ^ 32 - 1)) (replicate (length others) None) ≡ replicate (length (slots_stored symbol_of numbers others)) None
      go None e =
          let free : IsNone (symbol_of (2 ^ 32 - 1)) = rw e refl in
          rw (length-numbers numbers others (kind numbers others _ stored refl free)) (all_empty (length numbers) (length others) (2 ^ 32 - 1) e (counts (kind numbers others _ stored refl free)))
        where
          counts : (length others ≡ length numbers) ⊎ (others ≡ []) → (length others ≡ length numbers) ⊎ (length others ≡ 0)
          counts (inl a) = inl a
          counts (inr a) = inr (ap length a)
      go (Some s) e = let nothing = stored.absent (rw e refl) in rw nothing refl

  -- so many empty slots, where there are as many numbers if 2^32 - 1 has no symbol, and other slots unless no symbol could be there
  module _ (count n m : ℕ) (numbered : IsNone (symbol_of (2 ^ 32 - 1)) → n ≡ count) (unnumbered : IsSome (symbol_of (2 ^ 32 - 1)) → n ≡ 0) (other : (m ≡ count) ⊎ ((m ≡ 0) × AreNarrow symbol_of)) where
    pub made : slots_stored symbol_of (replicate n (2 ^ 32 - 1)) (replicate m None) ≡ replicate count None
    made = go (symbol_of (2 ^ 32 - 1)) refl other
      where
        go : (o : Option S) → symbol_of (2 ^ 32 - 1) ≡ o → (m ≡ count) ⊎ ((m ≡ 0) × AreNarrow symbol_of) → slots_stored symbol_of (replicate n (2 ^ 32 - 1)) (replicate m None) ≡ replicate count None
        go None e (inl a) = rw (numbered (rw e refl)) (all_empty count m (2 ^ 32 - 1) e (inl a))
        go None e (inr a) = rw (numbered (rw e refl)) (all_empty count m (2 ^ 32 - 1) e (inr a.0))
        go (Some s) e (inl a) = rw (unnumbered (rw e refl), a) refl
        go (Some s) e (inr a) = absurd (differ (sym e ∙ a.1 (2 ^ 32 - 1) (omega arith)))
          where
            differ : Some s ≡ None → ⊥
            differ e = cc

    pub made-stored : AreStored symbol_of (replicate n (2 ^ 32 - 1)) (replicate m None)
    made-stored = record {
      absent = λ some. rw (unnumbered some) refl;
      counted = λ free. by_kind free other;
      unused = λ narrow k. rw (none_in m k) refl;
    }
      where
        by_kind : IsNone (symbol_of (2 ^ 32 - 1)) → (m ≡ count) ⊎ ((m ≡ 0) × AreNarrow symbol_of)
            → (length (replicate {A = Option S} m None) ≡ length (replicate n (2 ^ 32 - 1))) ⊎ ((replicate {A = Option S} m None ≡ []) × AreNarrow symbol_of)
        by_kind free (inl a) = inl (length-replicate m None ∙ a ∙ sym (numbered free) ∙ sym (length-replicate n (2 ^ 32 - 1)))
        by_kind free (inr a) = inr (rw a.0 refl, a.1)

  pub other-stored : (numbers : List ℕ) (others : List (Option S)) (at number : ℕ) (slot : Option S) → AreStored symbol_of numbers others → (¬ AreNarrow symbol_of)
      → AreStored symbol_of (set numbers at number) (set others at slot)
  other-stored numbers others at number slot stored wide = record {
    absent = λ some. rw (stored.absent some) refl;
    counted = λ free. elim (stored.counted free) as (λ _. (length (set others at slot) ≡ length (set numbers at number)) ⊎ ((set others at slot ≡ []) × AreNarrow symbol_of))
        [ inl e ↦ inl (length-set others at slot ∙ e ∙ sym (length-set numbers at number)) | inr e ↦ absurd (wide e.1) ];
    unused = λ narrow k. absurd (wide narrow);
  }
