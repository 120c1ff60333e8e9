-- What a list contains once it is turned or set in one place, and which symbols stand in slots.
use Rattle.std.proofs.Common.{◌≡◌, ℕ, zero, suc, ◌+◌, ◌-◌, ◌<◌, ◌≤◌, ◌≢◌, ◌⊎◌, List, [], ◌∷◌, ◌++◌, Option, Some, None, length, get_or, set, take, drop, refl, sym, ap, subst, ◌∙◌, inl, inr, arith}
use Rattle.std.proofs.lemmas.List.{take-append-drop, length-append, length-drop, length-set, get_or-set_same, drop-set-add, drop-set-lt, take-set-le, set-append_left, set-append_right}
use Rattle.std.proofs.Math.Seq.{take-set-lt}
use Rattle.std.proofs.lemmas.List.Elements.{Contains-append_left, Contains-append_right, Contains-append_cases}
use Rattle.std.specs.List.{Contains}
use Rattle.string_interner.specs.Slots.{probed, symbols, front_cluster}

module _ {X : Type 0} where
  at_place : (xs : List X) (x : X) (k : ℕ) → k < length xs → get_or xs k x ≡ x → Contains xs x
  at_place xs x k l e = (k, l, e)

  pub here : (x : X) (xs : List X) → Contains (x ∷ xs) x
  here x xs = at_place (x ∷ xs) x 0 (omega arith) refl

  pub there : (x y : X) (xs : List X) → Contains xs x → Contains (y ∷ xs) x
  there x y xs h = Contains-append_right (y ∷ []) xs x h

  pub none : (x : X) → Contains [] x → ⊥
  none x h = let l = h.1 in omega arith

  alone : (x y : X) (k : ℕ) → k < 1 → get_or (y ∷ []) k x ≡ x → y ≡ x
  alone x y zero l e = e
  alone x y (suc k) l e = absurd (omega arith)

  pub head_or_tail : (x y : X) (xs : List X) → Contains (y ∷ xs) x → (y ≡ x) ⊎ Contains xs x
  head_or_tail x y xs h =
      elim (Contains-append_cases (y ∷ []) xs x h) as (λ _. (y ≡ x) ⊎ Contains xs x)
      [ inl a ↦ inl (alone x y a.0 a.1 a.2) | inr b ↦ inr b ]

  -- the elements of a list that was cut and turned are its elements
  pub Contains-turned : (xs : List X) (n : ℕ) (x : X) → Contains (drop n xs ++ take n xs) x → Contains xs x
  Contains-turned xs n x h = subst (λ (ys : List X). Contains ys x) (take-append-drop n xs)
      (elim (Contains-append_cases (drop n xs) (take n xs) x h) as (λ _. Contains (take n xs ++ drop n xs) x)
      [ inl a ↦ Contains-append_right (take n xs) (drop n xs) x a | inr b ↦ Contains-append_left (take n xs) (drop n xs) x b ])

  pub set_cases : (xs : List X) (i : ℕ) (v x : X) → Contains (set xs i v) x → (v ≡ x) ⊎ Contains xs x
  set_cases [] i v x h = inr h
  set_cases (y ∷ xs) zero v x h =
      elim (head_or_tail x v xs h) as (λ _. (v ≡ x) ⊎ Contains (y ∷ xs) x) [ inl e ↦ inl e | inr t ↦ inr (there x y xs t) ]
  set_cases (y ∷ xs) (suc i) v x h =
      elim (head_or_tail x y (set xs i v) h) as (λ _. (v ≡ x) ⊎ Contains (y ∷ xs) x) [
        | inl e ↦ inr (subst (λ (z : X). Contains (z ∷ xs) x) (sym e) (here x xs))
        | inr t ↦ (elim (set_cases xs i v x t) as (λ _. (v ≡ x) ⊎ Contains (y ∷ xs) x) [ inl e ↦ inl e | inr u ↦ inr (there x y xs u) ])
      ]

  pub set_here : (xs : List X) (i : ℕ) (v : X) → i < length xs → Contains (set xs i v) v
  set_here xs i v h = at_place (set xs i v) v i (let e = length-set xs i v in omega arith) (get_or-set_same xs i v v h)

  -- what stands elsewhere stays
  pub set_there : (xs : List X) (i : ℕ) (v x d : X) → Contains xs x → i < length xs → get_or xs i d ≢ x → Contains (set xs i v) x
  set_there [] i v x d h l ne = h
  set_there (y ∷ xs) zero v x d h l ne =
      elim (head_or_tail x y xs h) as (λ _. Contains (v ∷ xs) x) [ inl e ↦ absurd (ne e) | inr t ↦ there x v xs t ]
  set_there (y ∷ xs) (suc i) v x d h l ne =
      elim (head_or_tail x y xs h) as (λ _. Contains (y ∷ set xs i v) x) [
        | inl e ↦ subst (λ (z : X). Contains (z ∷ set xs i v) x) (sym e) (here x (set xs i v))
        | inr t ↦ there x y (set xs i v) (set_there xs i v x d t (omega arith) ne)
      ]

module _ {S : Type 0} where
  pub Contains-symbols : (slots : List (Option S)) (s : S) → Contains slots (Some s) → Contains (symbols slots) s
  Contains-symbols [] s h = absurd (none (Some s) h)
  Contains-symbols (None ∷ rest) s h =
      elim (head_or_tail (Some s) None rest h) as (λ _. Contains (symbols rest) s) [ inl e ↦ cc | inr t ↦ Contains-symbols rest s t ]
  Contains-symbols (Some y ∷ rest) s h =
      elim (head_or_tail (Some s) (Some y) rest h) as (λ _. Contains (y ∷ symbols rest) s) [
        | inl e ↦ subst (λ (z : S). Contains (z ∷ symbols rest) s) (let q : s ≡ y = cc in q) (here s (symbols rest))
        | inr t ↦ there s y (symbols rest) (Contains-symbols rest s t)
      ]

  pub symbols-in : (slots : List (Option S)) (s : S) → Contains (symbols slots) s → Contains slots (Some s)
  symbols-in [] s h = absurd (none s h)
  symbols-in (None ∷ rest) s h = there (Some s) None rest (symbols-in rest s h)
  symbols-in (Some y ∷ rest) s h =
      elim (head_or_tail s y (symbols rest) h) as (λ _. Contains (Some y ∷ rest) (Some s)) [
        | inl e ↦ subst (λ (z : S). Contains (Some z ∷ rest) (Some s)) (sym e) (here (Some s) rest)
        | inr t ↦ there (Some s) (Some y) rest (symbols-in rest s t)
      ]

  -- the probe cluster is made of slots
  pub cluster-in : (slots : List (Option S)) (s : S) → Contains (front_cluster slots) s → Contains slots (Some s)
  cluster-in [] s h = absurd (none s h)
  cluster-in (None ∷ rest) s h = absurd (none s h)
  cluster-in (Some y ∷ rest) s h =
      elim (head_or_tail s y (front_cluster rest) h) as (λ _. Contains (Some y ∷ rest) (Some s)) [
        | inl e ↦ subst (λ (z : S). Contains (Some z ∷ rest) (Some s)) (sym e) (here (Some s) rest)
        | inr t ↦ there (Some s) (Some y) rest (cluster-in rest s t)
      ]

  pub length-cluster : (slots : List (Option S)) → length (front_cluster slots) ≤ length (symbols slots)
  length-cluster [] = omega arith
  length-cluster (None ∷ rest) = omega arith
  length-cluster (Some y ∷ rest) = let h = length-cluster rest in omega arith

  pub length-symbols : (slots : List (Option S)) → length (symbols slots) ≤ length slots
  length-symbols [] = omega arith
  length-symbols (None ∷ rest) = let h = length-symbols rest in omega arith
  length-symbols (Some y ∷ rest) = let h = length-symbols rest in omega arith

  -- one slot is empty where symbols are fewer than slots
  pub empty-slot : (slots : List (Option S)) → length (symbols slots) < length slots → (k : ℕ) × (k < length slots) × (get_or slots k None ≡ None)
  empty-slot [] h = absurd (omega arith)
  empty-slot (None ∷ rest) h = (0, omega arith, refl)
  empty-slot (Some y ∷ rest) h = let r = empty-slot rest (omega arith) in (suc r.0, (let l = r.1 in omega arith), r.2)

  pub symbols-append : (a b : List (Option S)) → symbols (a ++ b) ≡ symbols a ++ symbols b
  symbols-append [] b = refl
  symbols-append (None ∷ a) b = symbols-append a b
  symbols-append (Some y ∷ a) b = ap (λ xs. y ∷ xs) (symbols-append a b)

  -- a symbol in a slot that was empty is one more
  pub symbols-set : (slots : List (Option S)) (i : ℕ) (s : S) → i < length slots → get_or slots i None ≡ None
      → length (symbols (set slots i (Some s))) ≡ length (symbols slots) + 1
  symbols-set [] i s l e = absurd (omega arith)
  symbols-set (None ∷ rest) zero s l e = omega arith
  symbols-set (Some y ∷ rest) zero s l e = cc
  symbols-set (None ∷ rest) (suc i) s l e = symbols-set rest i s (omega arith) e
  symbols-set (Some y ∷ rest) (suc i) s l e = let h = symbols-set rest i s (omega arith) e in omega arith

  -- and the clusters keep what they had
  pub cluster-set : (slots : List (Option S)) (i : ℕ) (v : Option S) (s : S) → get_or slots i None ≡ None
      → Contains (front_cluster slots) s → Contains (front_cluster (set slots i v)) s
  cluster-set [] i v s e h = h
  cluster-set (None ∷ rest) i v s e h = absurd (none s h)
  cluster-set (Some y ∷ rest) zero v s e h = cc
  cluster-set (Some y ∷ rest) (suc i) v s e h =
      elim (head_or_tail s y (front_cluster rest) h) as (λ _. Contains (y ∷ front_cluster (set rest i v)) s) [
        | inl q ↦ subst (λ (z : S). Contains (z ∷ front_cluster (set rest i v)) s) (sym q) (here s (front_cluster (set rest i v)))
        | inr t ↦ there s y (front_cluster (set rest i v)) (cluster-set rest i v s e t)
      ]

  -- the first empty slot, filled, is in the cluster
  pub cluster-set_end : (slots : List (Option S)) (i : ℕ) (s : S) → length (front_cluster slots) ≡ i → i < length slots
      → Contains (front_cluster (set slots i (Some s))) s
  cluster-set_end [] i s e l = absurd (omega arith)
  cluster-set_end (None ∷ rest) zero s e l = here s (front_cluster rest)
  cluster-set_end (None ∷ rest) (suc i) s e l = cc
  cluster-set_end (Some y ∷ rest) zero s e l = cc
  cluster-set_end (Some y ∷ rest) (suc i) s e l =
      there s y (front_cluster (set rest i (Some s))) (cluster-set_end rest i s (omega arith) (omega arith))

  -- a write, seen from home on
  pub probe-set :
      (slots : List (Option S)) (home i at : ℕ) (v : Option S) → home < length slots → i < length slots → at < length slots
      → (at ≡ home + i) ⊎ (at + length slots ≡ home + i) → probed (set slots at v) home ≡ set (probed slots home) i v
  probe-set slots home i at v h k l (inl e) =
      let a : drop home (set slots at v) ≡ set (drop home slots) i v = rw e (drop-set-add home slots i v) in
      let b : take home (set slots at v) ≡ take home slots = take-set-le home slots at v (omega arith) in
      let c : set (drop home slots ++ take home slots) i v ≡ set (drop home slots) i v ++ take home slots =
      set-append_left (drop home slots) (take home slots) i v (omega (arith, length-drop home slots)) in
      cc
  probe-set slots home i at v h k l (inr e) =
      let a : drop home (set slots at v) ≡ drop home slots = drop-set-lt home slots at v (omega arith) in
      let b : take home (set slots at v) ≡ set (take home slots) at v = take-set-lt home slots at v (omega arith) in
      let n : i - length (drop home slots) ≡ at = omega (arith, length-drop home slots) in
      let c : set (drop home slots ++ take home slots) i v ≡ drop home slots ++ set (take home slots) (i - length (drop home slots)) v =
      set-append_right (drop home slots) (take home slots) (length (drop home slots)) i v refl (omega (arith, length-drop home slots)) in
      cc

  -- no cluster is longer than the count of filled slots
  pub cluster_within : (slots : List (Option S)) (home : ℕ) → length (front_cluster (probed slots home)) ≤ length (symbols slots)
  cluster_within slots home =
      let b = length-cluster (probed slots home) in
      let c : length (symbols (probed slots home)) ≡ length (symbols (drop home slots)) + length (symbols (take home slots)) =
      ap length (symbols-append (drop home slots) (take home slots)) ∙ length-append (symbols (drop home slots)) (symbols (take home slots)) in
      let d : length (symbols (take home slots)) + length (symbols (drop home slots)) ≡ length (symbols slots) =
      sym (length-append (symbols (take home slots)) (symbols (drop home slots)))
      ∙ ap length (sym (symbols-append (take home slots) (drop home slots))) ∙ ap (λ xs. length (symbols xs)) (take-append-drop home slots) in
      omega arith
