-- Two symbols that change places, where the probe for one of them meets the slot of the other.
use Rattle.std.proofs.Common.{◌≡◌, ℕ, true, false, zero, suc, ◌<◌, ◌≢◌, ◌⊎◌, ◌%◌, List, [], ◌∷◌, Option, Some, None, length, get_or, set, refl, sym, ap, subst, ◌∙◌, inl, inr, arith}
use Rattle.std.proofs.lemmas.Bool.{cases_eq, cases_lt}
use Rattle.std.proofs.lemmas.List.{length-set, get_or-set_same, get_or-set_other, get_or_default, get_or_past}
use Rattle.std.proofs.lemmas.List.Elements.{Contains-get_or}
use Rattle.std.specs.List.{Contains}
use Rattle.std.specs.Option.{IsSome, option_and_then}
use Rattle.string_interner.specs.Text.{Text}
use Rattle.string_interner.specs.Slots.{symbols}
use Rattle.string_interner.specs.Index.{Fits, text_in, text_of}
use Rattle.string_interner.specs.Probe.{IsBetween, Rebuilt}
use Rattle.string_interner.proofs.Lemmas.Index.Inserts.{text_of_is}
use Rattle.string_interner.proofs.Lemmas.Index.IsBetween.{AreReached, AreReached-of, IsBetween-back, IsBetween-front, IsBetween-over, of-AreReached}

module _ {S : Type 0} where
  -- a filled slot has another symbol then, and no more are filled
  pub symbols-reset : (slots : List (Option S)) (k : ℕ) (s u : S) → k < length slots → get_or slots k None ≡ Some u → length (symbols (set slots k (Some s))) ≡ length (symbols slots)
  symbols-reset [] k s u l e = absurd (omega arith)
  symbols-reset (None ∷ rest) zero s u l e = absurd (cc)
  symbols-reset (Some y ∷ rest) zero s u l e = refl
  symbols-reset (None ∷ rest) (suc k) s u l e = symbols-reset rest k s u (omega arith) e
  symbols-reset (Some y ∷ rest) (suc k) s u l e = ap suc (symbols-reset rest k s u (omega arith) e)

  module _ (entry : S → Option Text) (code : Text → ℕ) (slots : List (Option S)) (fits : Fits entry code slots) (one other : ℕ) (s u : S) (l : one < length slots) (m : other < length slots)
      (e : get_or slots one None ≡ Some s) (f : get_or slots other None ≡ Some u) (meets : IsBetween (code (text_of entry u) % length slots) one other) where
    abbrev new : List (Option S)
    new = set (set slots one (Some u)) other (Some s)

    pub length-swapped : length new ≡ length slots
    length-swapped = length-set (set slots one (Some u)) other (Some s) ∙ length-set slots one (Some u)

    -- where what is in a slot was
    record WasAt (k i : ℕ) : Type 0 where
      within : i < length slots
      is : get_or new k None ≡ get_or slots i None
      moved : ((k ≡ other) × (i ≡ one)) ⊎ ((k ≢ other) × (k ≡ one) × (i ≡ other)) ⊎ ((k ≢ other) × (k ≢ one) × (i ≡ k))

    was : (k : ℕ) → k < length slots → (i : ℕ) × WasAt k i
    was k n = elim (cases_eq k other) as (λ _. (i : ℕ) × WasAt k i) [
      | inl q ↦ (
        one,
        record {
          within = l;
          is = ap (λ j. get_or new j None) q ∙ get_or-set_same (set slots one (Some u)) other (Some s) None (let b = length-set slots one (Some u) in omega arith) ∙ sym e;
          moved = inl (q, refl);
        },
      )
      | inr ne ↦ (elim (cases_eq k one) as (λ _. (i : ℕ) × WasAt k i) [
        | inl q ↦ (
          other,
          record {
            within = m;
            is = get_or-set_other (set slots one (Some u)) other k (Some s) None ne ∙ ap (λ j. get_or (set slots one (Some u)) j None) q ∙ get_or-set_same slots one (Some u) None l ∙ sym f;
            moved = inr (inl (ne, q, refl));
          },
        )
        | inr nf ↦ (
          k,
          record {
            within = n;
            is = get_or-set_other (set slots one (Some u)) other k (Some s) None ne ∙ get_or-set_other slots one k (Some u) None nf;
            moved = inr (inr (ne, nf, refl));
          },
        )
      ])
    ]

    one_place : (j k i h : ℕ) → WasAt j i → WasAt k h → i ≡ h → j ≡ k
    one_place j k i h a b q = let x = a.moved in let y = b.moved in grind arith

    -- each slot is filled that was
    stays_filled : (k : ℕ) → k < length slots → IsSome (get_or slots k None) → IsSome (get_or new k None)
    stays_filled k n h = let w = was k n in elim w.1.moved as (λ _. IsSome (get_or new k None)) [
      | inl q ↦ (let z : get_or new k None ≡ Some s = w.1.is ∙ ap (λ j. get_or slots j None) q.1 ∙ e in rw z refl)
      | inr (inl q) ↦ (let z : get_or new k None ≡ Some u = w.1.is ∙ ap (λ j. get_or slots j None) q.2 ∙ f in rw z refl)
      | inr (inr q) ↦ (let z : get_or new k None ≡ get_or slots k None = w.1.is ∙ ap (λ j. get_or slots j None) q.2 in subst IsSome (sym z) h)
    ]

    is_entry : (k : ℕ) (v : S) → k < length slots → get_or slots k None ≡ Some v → entry v ≡ Some (text_of entry v)
    is_entry k v n q = text_of_is entry v (fits.entries v (subst (Contains slots) q (Contains-get_or slots k None n)))

    reached : AreReached entry code slots
    reached = AreReached-of entry code slots fits

    -- the way of each symbol is filled where it is now
    filled : (k i : ℕ) (v : S) (t : Text) → WasAt k i → get_or new k None ≡ Some v → entry v ≡ Some t → (j : ℕ) → j < length slots → IsBetween (code t % length slots) j k → IsSome (get_or slots j None)
    filled k i v t w is has j n x =
        let there : get_or slots i None ≡ Some v = sym w.is ∙ is in
        elim w.moved as (λ _. IsSome (get_or slots j None)) [
          | inl q ↦
              (let x' : IsBetween (code t % length slots) j other = subst (λ a. IsBetween (code t % length slots) j a) q.0 x in
              let there' : get_or slots one None ≡ Some v = ap (λ a. get_or slots a None) (sym q.1) ∙ there in
              elim (IsBetween-over (code t % length slots) one other j x') as (λ _. IsSome (get_or slots j None)) [
                | inl y ↦ reached one v t l there' has j n y
                | inr y ↦ reached other u (text_of entry u) m f (is_entry other u m f) j n (IsBetween-back (code (text_of entry u) % length slots) one other j meets y)
              ])
          | inr (inl q) ↦
              (let there' : get_or slots other None ≡ Some v = ap (λ a. get_or slots a None) (sym q.2) ∙ there in
              let both : Some v ≡ Some u = sym there' ∙ f in let same : v ≡ u = cc in
              let texts : Some t ≡ Some (text_of entry u) = sym has ∙ ap entry same ∙ is_entry other u m f in let text : t ≡ text_of entry u = cc in
              let x' : IsBetween (code (text_of entry u) % length slots) j one = subst (λ a. IsBetween (code a % length slots) j one) text (subst (λ a. IsBetween (code t % length slots) j a) q.1 x) in
              reached other u (text_of entry u) m f (is_entry other u m f) j n (IsBetween-front (code (text_of entry u) % length slots) one other j meets x'))
          | inr (inr q) ↦
              (let there' : get_or slots k None ≡ Some v = ap (λ a. get_or slots a None) (sym q.2) ∙ there in
              reached k v t (let b = w.within in let c = q.2 in omega arith) there' has j n x)
        ]

    in_old : (v : S) → Contains new (Some v) → Contains slots (Some v)
    in_old v c =
        let n : c.0 < length slots = (let a = c.1 in let b = length-swapped in omega arith) in let w = was c.0 n in
        (w.0, w.1.within, get_or_default slots w.0 (Some v) None w.1.within ∙ sym w.1.is ∙ get_or_default new c.0 None (Some v) c.1 ∙ c.2)

    in_new : (v : S) → Contains slots (Some v) → Contains new (Some v)
    in_new v c =
        let at : get_or slots c.0 None ≡ Some v = get_or_default slots c.0 None (Some v) c.1 ∙ c.2 in
        let put : (k : ℕ) → k < length slots → get_or new k None ≡ Some v → Contains new (Some v) =
        λ k n q. let b = length-swapped in let z : k < length new = omega arith in (k, z, get_or_default new k (Some v) None z ∙ q) in
        elim (cases_eq c.0 one) as (λ _. Contains new (Some v)) [
          | inl q ↦
              (let is : get_or new other None ≡ Some v = get_or-set_same (set slots one (Some u)) other (Some s) None (let b = length-set slots one (Some u) in omega arith) ∙ sym e ∙ ap (λ j. get_or slots j None) (sym q) ∙ at in
              put other m is)
          | inr ne ↦ (elim (cases_eq c.0 other) as (λ _. Contains new (Some v)) [
            | inl q ↦ (let both : Some u ≡ Some v = sym f ∙ ap (λ j. get_or slots j None) (sym q) ∙ at in let same : u ≡ v = cc in
                elim (cases_eq one other) as (λ _. Contains new (Some v)) [
                  | inl r ↦ absurd (ne (q ∙ sym r))
                  | inr nr ↦ put one l (get_or-set_other (set slots one (Some u)) other one (Some s) None nr ∙ get_or-set_same slots one (Some u) None l ∙ ap Some same)
                ])
            | inr nf ↦ put c.0 c.1 (get_or-set_other (set slots one (Some u)) other c.0 (Some s) None nf ∙ get_or-set_other slots one c.0 (Some u) None ne ∙ at)
          ])
        ]

    count : length (symbols new) ≡ length (symbols slots)
    count =
        let b = length-set slots one (Some u) in
        let by : (o : Option S) → get_or (set slots one (Some u)) other None ≡ o → IsSome o → length (symbols new) ≡ length (symbols (set slots one (Some u))) = elim [
          | None ↦ λ q h. absurd (cc)
          | Some v ↦ λ q h. symbols-reset (set slots one (Some u)) other s v (omega arith) q
        ] in
        let some : IsSome (get_or (set slots one (Some u)) other None) = elim (cases_eq other one) as (λ _. IsSome (get_or (set slots one (Some u)) other None)) [
          | inl q ↦ (let z : get_or (set slots one (Some u)) other None ≡ Some u = ap (λ j. get_or (set slots one (Some u)) j None) q ∙ get_or-set_same slots one (Some u) None l in rw z refl)
          | inr ne ↦ (let z : get_or (set slots one (Some u)) other None ≡ Some u = get_or-set_other slots one other (Some u) None ne ∙ f in rw z refl)
        ] in
        by (get_or (set slots one (Some u)) other None) refl some ∙ symbols-reset slots one u s l e

    text_was : (k i : ℕ) → WasAt k i → text_in entry new k ≡ text_in entry slots i
    text_was k i w = ap (λ o. option_and_then entry o) w.is

    within : (k : ℕ) (t : Text) → text_in entry new k ≡ Some t → k < length slots
    within k t q = elim (cases_lt k (length slots)) as (λ _. k < length slots) [
      | inl b ↦ b
      | inr b ↦ absurd (let z = get_or_past new k None (let y = length-swapped in omega arith) in let x : None ≡ Some t = sym (ap (λ o. option_and_then entry o) z) ∙ q in cc)
    ]

    pub Rebuilt-swapped : Rebuilt entry code slots new
    Rebuilt-swapped = record {
      fits = of-AreReached entry code new (λ v c. fits.entries v (in_old v c))
          (λ j k t a b. let v = was j (within j t a) in let w = was k (within k t b) in
          one_place j k v.0 w.0 v.1 w.1 (fits.distinct v.0 w.0 t (sym (text_was j v.0 v.1) ∙ a) (sym (text_was k w.0 w.1) ∙ b)))
          (λ k v t n is has j h x. let z = length-swapped in let w = was k (omega arith) in let y : j < length slots = omega arith in
          stays_filled j y (filled k w.0 v t w.1 is has j y (subst (λ c. IsBetween (code t % c) j k) z x)));
      count = count;
      to = in_new;
      from = in_old;
    }

    -- a slot that is empty was empty
    pub empty-swapped : (k : ℕ) → k < length slots → get_or new k None ≡ None → get_or slots k None ≡ None
    empty-swapped k n q =
        let by : (o : Option S) → get_or slots k None ≡ o → o ≡ None = elim [
          | None ↦ λ r. refl
          | Some v ↦ λ r. absurd (let h : IsSome (get_or slots k None) = rw r refl in let z : false ≡ true = subst IsSome q (stays_filled k n h) in cc)
        ] in
        by (get_or slots k None) refl
