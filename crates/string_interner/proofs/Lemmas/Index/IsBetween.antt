-- The slots that a probe meets, and the probe clusters by them.
use Rattle.std.proofs.Common.{◌≡◌, ℕ, zero, suc, ◌+◌, ◌-◌, ◌<◌, ◌≤◌, ◌≢◌, ◌⊎◌, ◌%◌, List, [], ◌∷◌, Option, Some, None, length, get_or, refl, sym, ap, subst, ◌∙◌, inl, inr, arith}
use Rattle.std.proofs.lemmas.Bool.{cases_lt}
use Rattle.std.proofs.lemmas.List.{get_or_default}
use Rattle.std.specs.List.{Contains}
use Rattle.std.specs.Option.{IsSome, option_and_then}
use Rattle.string_interner.specs.Text.{Text}
use Rattle.string_interner.specs.Slots.{front_cluster, probed}
use Rattle.string_interner.specs.Index.{Fits, text_in}
use Rattle.string_interner.specs.Probe.{Follows, IsBetween}
use Rattle.string_interner.proofs.Lemmas.Index.ProbeLoop.{length-probe, get_or-probe}
use Rattle.string_interner.proofs.Lemmas.Index.Slots.{here, there, none, head_or_tail}
use Rattle.string_interner.proofs.Lemmas.Index.Vacancy.{mod_less}

-- its last slot is met
pub IsBetween-last : (home at : ℕ) → IsBetween home at at
IsBetween-last home at = elim (cases_lt at home) as (λ _. IsBetween home at at) [ inl b ↦ inr (b, inr (omega arith)) | inr b ↦ inl (omega arith, omega arith, omega arith) ]

-- what is met on the way to a slot that is met, is met
pub IsBetween-front : (home between at j : ℕ) → IsBetween home between at → IsBetween home j between → IsBetween home j at
IsBetween-front home between at j x y = grind arith

-- and so is what is met from there on
pub IsBetween-back : (home between at j : ℕ) → IsBetween home between at → IsBetween between j at → IsBetween home j at
IsBetween-back home between at j x y = grind arith

-- a way over another slot meets no others
pub IsBetween-over : (home between at j : ℕ) → IsBetween home j at → IsBetween home j between ⊎ IsBetween between j at
IsBetween-over home between at j x = grind arith

-- a probe that ends before a slot comes to its end before that slot
pub IsBetween-before : (home between at free : ℕ) → IsBetween home between at → ¬ IsBetween home free at → IsBetween between at free
IsBetween-before home between at free x y = grind arith

-- what is met before the next slot is this one or was met before it
pub IsBetween-next : (count from at next j : ℕ) → j < count → from < count → Follows count at next → IsBetween from j next → j ≢ from → j ≢ next → IsBetween from j at
IsBetween-next count from at next j l h f x ne nf = let a = f.within in let b = f.one_on in grind arith

-- nothing is between two slots of which one follows the other
pub IsBetween-none : (count from next j : ℕ) → j < count → from < count → Follows count from next → IsBetween from j next → j ≢ from → j ≢ next → ⊥
IsBetween-none count from next j l h f x ne nf = let a = f.within in let b = f.one_on in grind arith

module _ {S : Type 0} where
  -- all slots that a probe from this home to the slot `k` meets are filled
  abbrev pub IsReached : List (Option S) → ℕ → ℕ → Type 0
  IsReached slots home k = (j : ℕ) → j < length slots → IsBetween home j k → IsSome (get_or slots j None)

  -- where a symbol is in the cluster at the front
  record IsInFront (slots : List (Option S)) (s : S) : Type 0 where
    at : ℕ
    within : at < length slots
    is : get_or slots at None ≡ Some s
    filled : (j : ℕ) → j ≤ at → IsSome (get_or slots j None)

  in_front : (slots : List (Option S)) (s : S) → Contains (front_cluster slots) s → IsInFront slots s
  in_front [] s h = absurd (none s h)
  in_front (None ∷ rest) s h = absurd (none s h)
  in_front (Some y ∷ rest) s h =
      let first : (j : ℕ) → j ≤ 0 → IsSome (get_or (Some y ∷ rest) j None) = λ j l. let z : 0 ≡ j = omega arith in subst (λ n. IsSome (get_or (Some y ∷ rest) n None)) z refl in
      elim (head_or_tail s y (front_cluster rest) h) as (λ _. IsInFront (Some y ∷ rest) s) [
        | inl e ↦ record { at = 0; within = omega arith; is = ap Some e; filled = first }
        | inr t ↦ further y rest s (in_front rest s t)
      ]
    where
      further : (y : S) (rest : List (Option S)) (s : S) → IsInFront rest s → IsInFront (Some y ∷ rest) s
      further y rest s r = let w = r.within in record { at = suc r.at; within = omega arith; is = r.is; filled = filled }
        where
          filled : (j : ℕ) → j ≤ suc r.at → IsSome (get_or (Some y ∷ rest) j None)
          filled zero l = refl
          filled (suc j) l = r.filled j (omega arith)

  front-in : (slots : List (Option S)) (s : S) (k : ℕ) → k < length slots → get_or slots k None ≡ Some s → ((j : ℕ) → j < k → IsSome (get_or slots j None)) → Contains (front_cluster slots) s
  front-in [] s k l e f = absurd (omega arith)
  front-in (None ∷ rest) s zero l e f = absurd (cc)
  front-in (None ∷ rest) s (suc k) l e f = absurd (let z = f 0 (omega arith) in cc)
  front-in (Some y ∷ rest) s zero l e f = let q : y ≡ s = cc in subst (Contains (y ∷ front_cluster rest)) q (here y (front_cluster rest))
  front-in (Some y ∷ rest) s (suc k) l e f = there s y (front_cluster rest) (front-in rest s k (omega arith) e (λ j m. f (suc j) (omega arith)))

  -- a symbol in a cluster is in a slot up to which all are filled
  pub record IsPlacedAt (slots : List (Option S)) (home : ℕ) (s : S) : Type 0 where
    pub at : ℕ
    pub within : at < length slots
    pub is : get_or slots at None ≡ Some s
    pub reached : IsReached slots home at

  module _ (slots : List (Option S)) (home : ℕ) (h : home < length slots) where
    -- the slot that is `i` steps from home on
    record IsStep (i k : ℕ) : Type 0 where
      within : k < length slots
      place : (k ≡ home + i) ⊎ (k + length slots ≡ home + i)

    step-at : (i : ℕ) → i < length slots → (k : ℕ) × IsStep i k
    step-at i l = elim (cases_lt (home + i) (length slots)) [
      | inl b ↦ (home + i, record { within = b; place = inl refl })
      | inr b ↦ (home + i - length slots, record { within = omega arith; place = inr (omega arith) })
    ]

    steps-to : (k : ℕ) → k < length slots → (i : ℕ) × (i < length slots) × IsStep i k
    steps-to k l = elim (cases_lt k home) [
      | inl b ↦ (k + length slots - home, omega arith, record { within = l; place = inr (omega arith) })
      | inr b ↦ (k - home, omega arith, record { within = l; place = inl (omega arith) })
    ]

    read : (i k : ℕ) → i < length slots → IsStep i k → get_or (probed slots home) i None ≡ get_or slots k None
    read i k l s = get_or-probe slots home i k None h l s.within s.place

    earlier : (i k j m : ℕ) → i < length slots → IsStep i k → IsStep j m → j < length slots → IsBetween home m k → j ≤ i
    earlier i k j m l s t n x = let a = s.within in let b = s.place in let c = t.within in let d = t.place in grind arith

    met : (i k j m : ℕ) → i < length slots → IsStep i k → IsStep j m → j ≤ i → IsBetween home m k
    met i k j m l s t n = let a = s.within in let b = s.place in let c = t.within in let d = t.place in grind arith

    pub IsPlacedAt-of : (s : S) → Contains (front_cluster (probed slots home)) s → IsPlacedAt slots home s
    IsPlacedAt-of s c =
        let f = in_front (probed slots home) s c in let n = length-probe slots home (let a = h in omega arith) in
        let l : f.at < length slots = (let w = f.within in omega arith) in let k = step-at f.at l in
        record {
          at = k.0;
          within = k.1.within;
          is = sym (read f.at k.0 l k.1) ∙ f.is;
          reached = λ j m x. let i = steps-to j m in
              subst IsSome (read i.0 j i.1 i.2) (f.filled i.0 (earlier f.at k.0 i.0 j l k.1 i.2 i.1 x));
        }

    pub of-IsPlacedAt : (s : S) (k : ℕ) → k < length slots → get_or slots k None ≡ Some s → IsReached slots home k → Contains (front_cluster (probed slots home)) s
    of-IsPlacedAt s k l e r =
        let n = length-probe slots home (let a = h in omega arith) in let i = steps-to k l in
        front-in (probed slots home) s i.0 (let a = i.1 in omega arith) (read i.0 k i.1 i.2 ∙ e)
        (λ j m. let less : j < length slots = (let a = i.1 in omega arith) in let t = step-at j less in
        subst IsSome (sym (read j t.0 less t.1)) (r t.0 t.1.within (met i.0 k j t.0 i.1 i.2 t.1 (omega arith))))

module _ {S : Type 0} (entry : S → Option Text) (code : Text → ℕ) (slots : List (Option S)) where
  -- each symbol is reached from the home of its text
  abbrev pub AreReached : Type 0
  AreReached = (k : ℕ) (s : S) (t : Text) → k < length slots → get_or slots k None ≡ Some s → entry s ≡ Some t → IsReached slots (code t % length slots) k

  -- the text of what is in a slot
  pub text_in-at : (k : ℕ) (s : S) (t : Text) → get_or slots k None ≡ Some s → entry s ≡ Some t → text_in entry slots k ≡ Some t
  text_in-at k s t e is = ap (λ o. option_and_then entry o) e ∙ is

  pub AreReached-of : Fits entry code slots → AreReached
  AreReached-of fits k s t l e is =
      let some : 0 < length slots = omega arith in let h = mod_less (code t) (length slots) some in
      let p = IsPlacedAt-of slots (code t % length slots) h s (fits.placed s t (k, l, get_or_default slots k (Some s) None l ∙ e) is) in
      let same : p.at ≡ k = fits.distinct p.at k t (text_in-at p.at s t p.is is) (text_in-at k s t e is) in
      subst (IsReached slots (code t % length slots)) same p.reached

  pub of-AreReached : ((s : S) → Contains slots (Some s) → IsSome (entry s)) → ((j k : ℕ) (t : Text) → text_in entry slots j ≡ Some t → text_in entry slots k ≡ Some t → j ≡ k)
      → AreReached → Fits entry code slots
  of-AreReached entries distinct reached = record {
    entries = entries;
    distinct = distinct;
    placed = λ s t c is.
        let e : get_or slots c.0 None ≡ Some s = get_or_default slots c.0 None (Some s) c.1 ∙ c.2 in
        of-IsPlacedAt slots (code t % length slots) (mod_less (code t) (length slots) (let a = c.1 in omega arith)) s c.0 c.1 e (reached c.0 s t c.1 e is);
  }
