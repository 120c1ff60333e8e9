-- The tags before the first stop, by the bits of two masks.
use Rattle.std.proofs.Common.{◌≡◌, ℕ, ◌<◌, ◌≤◌, ◌^◌, bit_or, max, w64, arith, inl, inr}
use Rattle.std.specs.Int.{bit_at, trailing_zeros}
use Rattle.std.proofs.lemmas.Bool.{cases_lt}
use Rattle.std.proofs.lemmas.Nat.{or_lt, le_or_r}
use Rattle.std.proofs.lemmas.Nat.Bits.{bit_at_or, bit_at-trailing_zeros}

-- bit `k` is one of the sixteen, and set in neither mask
pub record IsUnset (a b k : ℕ) : Type 0 where
  pub within : k < 16
  pub first : bit_at a k ≡ 0
  pub second : bit_at b k ≡ 0

module _ (a b : ℕ) (small_a : a < 2 ^ 64) (small_b : b < 2 ^ 64) where
  abbrev stops : ℕ
  stops = bit_or (bit_or a b) 65536

  last : bit_at stops 16 ≡ max (bit_at (bit_or a b) 16) 1
  last = bit_at_or (bit_or a b) 65536 16

  lowest : (trailing_zeros w64 stops < 64) × (bit_at stops (trailing_zeros w64 stops) ≡ 1) × ((i : ℕ) → i < trailing_zeros w64 stops → bit_at stops i ≡ 0)
  lowest = bit_at-trailing_zeros w64 stops (let l = le_or_r (bit_or a b) 65536 in omega arith)
      (or_lt 64 (bit_or a b) 65536 (or_lt 64 a b small_a small_b) (omega arith))

  pub stops-le : trailing_zeros w64 stops ≤ 16
  stops-le = elim (cases_lt 16 (trailing_zeros w64 stops)) as (λ _. trailing_zeros w64 stops ≤ 16) [
    | inl l ↦ absurd (let e = lowest.2 16 l in let f = last in omega arith)
    | inr l ↦ l
  ]

  pub unset : (k : ℕ) → k < trailing_zeros w64 stops → IsUnset a b k
  unset k l =
      let e = lowest.2 k l in let f = bit_at_or (bit_or a b) 65536 k in let g = bit_at_or a b k in
      let le = stops-le in
      record { within = omega arith; first = omega arith; second = omega arith }
