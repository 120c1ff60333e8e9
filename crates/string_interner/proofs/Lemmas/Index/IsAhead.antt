-- A walk over all slots, round the end to the first: where it is after some steps, and which slots it has yet to come to.
use Rattle.std.proofs.Common.{◌≡◌, ℕ, ◌+◌, ◌<◌, ◌≤◌, ◌≢◌, ◌⊎◌, inl, inr, arith}
use Rattle.std.proofs.lemmas.Bool.{cases_lt}
use Rattle.string_interner.specs.Probe.{Follows}

-- `i` steps from the slot `start` on is the slot `at`
pub record IsAfter (count start i at : ℕ) : Type 0 where
  pub within : at < count
  pub place : (at ≡ start + i) ⊎ (at + count ≡ start + i)

-- the slot `k` is `i` steps from the slot `start` on, or more
abbrev pub IsAhead : ℕ → ℕ → ℕ → ℕ → Type 0
IsAhead count start i k = (start + i ≤ k) ⊎ ((k < start) × (start + i ≤ k + count))

module _ (count start : ℕ) (h : start < count) where
  -- and none is after as many steps as there are slots
  pub IsAhead-end : (i k : ℕ) → k < count → count ≤ i → IsAhead count start i k → ⊥
  IsAhead-end i k l le (inl a) = omega arith
  IsAhead-end i k l le (inr a) = let b = a.0 in let c = a.1 in omega arith

  module _ (i at k : ℕ) (l : k < count) (w : IsAfter count start i at) where
    -- a slot that the walk is not at is ahead of the next step, too
    pub IsAhead-more : k ≢ at → IsAhead count start i k → IsAhead count start (i + 1) k
    IsAhead-more ne (inl a) =
        elim w.place as (λ _. IsAhead count start (i + 1) k) [
          | inl p ↦ (let apart : k ≢ start + i = λ e. ne (omega arith) in
              elim (cases_lt (start + i) k) as (λ _. IsAhead count start (i + 1) k) [ inl b ↦ inl (omega arith) | inr b ↦ absurd (apart (omega arith)) ])
          | inr p ↦ absurd (let b = w.within in omega arith)
        ]
    IsAhead-more ne (inr a) =
        let b = a.0 in let c = a.1 in let d = w.within in
        elim w.place as (λ _. IsAhead count start (i + 1) k) [
          | inl p ↦ inr (b, omega arith)
          | inr p ↦ (elim (cases_lt (start + i) (k + count)) as (λ _. IsAhead count start (i + 1) k) [ inl m ↦ inr (b, omega arith) | inr m ↦ absurd (ne (omega arith)) ])
        ]

  pub IsAfter-more : (i at next : ℕ) → i < count → IsAfter count start i at → Follows count at next → IsAfter count start (i + 1) next
  IsAfter-more i at next less w f = record {
    within = f.within;
    place = elim f.one_on as (λ _. (next ≡ start + (i + 1)) ⊎ (next + count ≡ start + (i + 1))) [
      | inl e ↦ (elim w.place as (λ _. (next ≡ start + (i + 1)) ⊎ (next + count ≡ start + (i + 1))) [ inl p ↦ inl (omega arith) | inr p ↦ inr (omega arith) ])
      | inr e ↦ (let z = e.0 in let y = e.1 in
          elim w.place as (λ _. (next ≡ start + (i + 1)) ⊎ (next + count ≡ start + (i + 1))) [ inl p ↦ inr (omega arith) | inr p ↦ absurd (omega arith) ])
    ];
  }
