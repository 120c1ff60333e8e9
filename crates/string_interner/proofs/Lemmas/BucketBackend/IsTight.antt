-- How the buckets stay few, and their capacities low.
use Rattle.std.proofs.Common.{◌≡◌, ℕ, ◌+◌, ◌*◌, ◌^◌, ◌<◌, ◌≤◌, max, List, [], ◌∷◌, ◌++◌, length, refl, inl, inr, arith}
use Rattle.std.specs.Int.{IsNextPowerOfTwo}
use Rattle.std.proofs.Math.Pow.{pow_mono}
use Rattle.std.proofs.lemmas.Bool.{cases_lt}
use Rattle.std.proofs.lemmas.List.{length_push, length-append}
use Rattle.std.proofs.lemmas.List.Sums.{sum_by_push}
use Rattle.string_interner.specs.Text.{Text}
use Rattle.string_interner.specs.Backend.{Bucket}
use Rattle.string_interner.specs.BucketBackend.{AreFew, buckets_of, total_capacity, byte_count, Puts, IsTight}

-- the power of two from a number on that is above a power of two is twice that one, or more
next_power-above : (n m p : ℕ) → 2 ^ n < m → IsNextPowerOfTwo m p → 2 ^ (n + 1) ≤ p
next_power-above n m p above next =
    let k : ℕ = next.0.0 in
    let is : p ≡ 2 ^ k = next.0.1 in
    elim (cases_lt n k) as (λ _. 2 ^ (n + 1) ≤ p) [
      | inl greater ↦ let a : 2 ^ (n + 1) ≤ 2 ^ k = pow_mono {i = n + 1} {j = k} (omega arith) in omega (arith, is, a)
      | inr not_greater ↦ let a : 2 ^ k ≤ 2 ^ n = pow_mono {i = k} {j = n} (omega arith) in absurd (omega (arith, is, a, above, next.1))
    ]

-- one more bucket is begun
pub few_begins : (full new_full : List Bucket) (head new_head : Bucket) (text : Text) → AreFew full head → length head.bytes ≤ head.capacity → head.capacity < length head.bytes + length text → new_full ≡ full ++ head ∷ []
    → IsNextPowerOfTwo (max head.capacity (length text) + 1) new_head.capacity → AreFew new_full new_head
few_begins full new_full head new_head text few within lt is next =
    let count : length new_full ≡ length full + 1 = rw is (length_push full head) in
    let above : 2 ^ length full < max head.capacity (length text) + 1 = omega (arith, few, within, lt) in
    let twice : 2 ^ (length full + 1) ≤ new_head.capacity = next_power-above (length full) (max head.capacity (length text) + 1) new_head.capacity above next in
    rw count (omega (arith, twice))

-- a capacity below 2 ^ 64 has fewer than 64 buckets before it
pub few_below : (full : List Bucket) (head : Bucket) → AreFew full head → head.capacity < 2 ^ 64 → length full < 64
few_below full head few below =
    elim (cases_lt (length full) 64) [
      | inl lt ↦ lt
      | inr not_lt ↦ let a : 2 ^ 64 ≤ 2 ^ length full = pow_mono {i = 64} {j = length full} (omega arith) in absurd (omega (arith, a, few, below))
    ]

pub byte_count-puts : (text : Text) (full : List Bucket) (head : Bucket) (new_full : List Bucket) (new_head : Bucket) → Puts text full head new_full new_head → byte_count (buckets_of new_full new_head) ≡ byte_count (buckets_of full head) + length text
byte_count-puts text full head new_full new_head puts =
    let sum = λ (buckets : List Bucket) (b : Bucket). sum_by_push (λ (b : Bucket). length b.bytes) buckets b in
    elim (cases_lt head.capacity (length head.bytes + length text)) [
      | inl lt ↦ rw ((puts.too_long lt).0, sum (buckets_of full head) new_head, (puts.too_long lt).1) refl
      | inr le ↦ rw ((puts.fits le).0, sum full new_head, sum full head, (puts.fits le).1, length-append head.bytes text) (omega arith)
    ]

older-puts : (full : List Bucket) (head : Bucket) (n capacities bytes : ℕ) → IsTight full head → head.capacity < length head.bytes + n → capacities ≡ total_capacity full + head.capacity → bytes ≡ byte_count full + length head.bytes → capacities + 1 ≤ 2 * bytes + n
older-puts [] head n capacities bytes tight lt c b = omega (arith, tight.within)
older-puts (x ∷ full) head n capacities bytes tight lt c b = omega (arith, tight.within, tight.older (omega arith))

pub tight-puts : (text : Text) (full : List Bucket) (head : Bucket) (new_full : List Bucket) (new_head : Bucket) → IsTight full head → Puts text full head new_full new_head → IsTight new_full new_head
tight-puts text full head new_full new_head tight puts =
    elim (cases_lt head.capacity (length head.bytes + length text)) [
      | inl lt ↦
          let p = puts.too_long lt in
          let c : total_capacity (full ++ head ∷ []) ≡ total_capacity full + head.capacity = sum_by_push (λ (b : Bucket). b.capacity) full head in
          let b : byte_count (full ++ head ∷ []) ≡ byte_count full + length head.bytes = sum_by_push (λ (b : Bucket). length b.bytes) full head in
          rw (p.0, p.1) (record {
            within = omega (arith, p.2.1);
            older = λ _. older-puts full head (length text) _ _ tight lt c b;
            newest = λ _. omega (arith, b, lt, p.2.2);
            few = few_begins full (full ++ head ∷ []) head new_head text tight.few tight.within lt refl p.2;
          })
      | inr le ↦
          let p = puts.fits le in
          let n = length-append head.bytes text in
          rw (p.0, p.1) (record {
            within = omega (arith, n, le);
            older = λ some. omega (arith, n, tight.older some);
            newest = λ some. omega (arith, n, tight.newest some);
            few = tight.few;
          })
    ]
