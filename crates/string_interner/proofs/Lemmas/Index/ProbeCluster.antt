-- The probe cluster as a list is the probe cluster slot by slot.
use Rattle.std.proofs.Common.{◌≡◌, ℕ, zero, suc, ◌+◌, ◌-◌, ◌<◌, ◌≤◌, ◌%◌, List, [], ◌∷◌, Option, Some, None, length, get_or, refl, subst, ◌∙◌, inl, inr, arith}
use Rattle.std.proofs.Math.Nat.{mod-eq_of_lt, mod-eq-sub-mod}
use Rattle.std.proofs.lemmas.Bool.{cases_lt}
use Rattle.std.specs.Option.{IsSome, IsNone}
use Rattle.string_interner.specs.Slots.{probed, front_cluster, IsProbeCluster}
use Rattle.string_interner.proofs.Lemmas.Index.ProbeLoop.{length-probe, get_or-probe}

module _ {S : Type 0} where
  some_not_none : (o : Option S) → IsSome o → IsNone o → ⊥
  some_not_none None a b = cc
  some_not_none (Some s) a b = cc

  cluster_long : (xs : List (Option S)) → length (front_cluster xs) ≤ length xs
  cluster_long [] = omega arith
  cluster_long (None ∷ xs) = omega arith
  cluster_long (Some s ∷ xs) = let h = cluster_long xs in omega arith

  cluster_filled : (xs : List (Option S)) (i : ℕ) → i < length (front_cluster xs) → IsSome (get_or xs i None)
  cluster_filled [] i l = absurd (omega arith)
  cluster_filled (None ∷ xs) i l = absurd (omega arith)
  cluster_filled (Some s ∷ xs) zero l = refl
  cluster_filled (Some s ∷ xs) (suc i) l = cluster_filled xs i (omega arith)

  cluster_ends : (xs : List (Option S)) → IsNone (get_or xs (length (front_cluster xs)) None)
  cluster_ends [] = refl
  cluster_ends (None ∷ xs) = refl
  cluster_ends (Some s ∷ xs) = cluster_ends xs

  -- the i-th slot from home on, by the remainder
  get_or-probe_mod : (slots : List (Option S)) (home i : ℕ) → home < length slots → i < length slots
      → get_or (probed slots home) i None ≡ get_or slots ((home + i) % length slots) None
  get_or-probe_mod slots home i h l =
      elim (cases_lt (home + i) (length slots)) as (λ _. get_or (probed slots home) i None ≡ get_or slots ((home + i) % length slots) None) [
        | inl b ↦ (let e : (home + i) % length slots ≡ home + i = mod-eq_of_lt b in
            get_or-probe slots home i ((home + i) % length slots) None h l (omega arith) (inl e))
        | inr b ↦ (let c : home + i - length slots < length slots = omega arith in
            let e : (home + i) % length slots ≡ home + i - length slots = mod-eq-sub-mod b ∙ mod-eq_of_lt c in
            get_or-probe slots home i ((home + i) % length slots) None h l (omega arith) (inr (omega arith)))
      ]

  pub probe_cluster-is : (slots : List (Option S)) (home : ℕ) → home < length slots → IsProbeCluster slots home (length (front_cluster (probed slots home)))
  probe_cluster-is slots home h =
      let n = length-probe slots home (let a = h in omega arith) in let r = cluster_long (probed slots home) in
      record {
        within = omega arith;
        filled = λ i l. subst IsSome (get_or-probe_mod slots home i h (omega arith)) (cluster_filled (probed slots home) i l);
        greatest = λ l. subst IsNone (get_or-probe_mod slots home (length (front_cluster (probed slots home))) h l) (cluster_ends (probed slots home));
      }

  -- no probe cluster is shorter than the list
  pub cluster-le : (slots : List (Option S)) (home f : ℕ) → home < length slots → IsProbeCluster slots home f → length (front_cluster (probed slots home)) ≤ f
  cluster-le slots home f h r =
      elim (cases_lt f (length (front_cluster (probed slots home)))) as (λ _. length (front_cluster (probed slots home)) ≤ f) [
        | inl l ↦ (let w = (probe_cluster-is slots home h).within in
            let a = r.greatest (omega arith) in let b = (probe_cluster-is slots home h).filled f l in absurd (some_not_none (get_or slots ((home + f) % length slots) None) b a))
        | inr l ↦ l
      ]
