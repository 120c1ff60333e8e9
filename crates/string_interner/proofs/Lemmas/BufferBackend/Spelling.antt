-- Reading a number at the front of a list of bytes, digit after digit.
use Rattle.std.proofs.Common.{below_more, ◌≡◌, ℕ, zero, suc, ◌+◌, ◌*◌, ◌%◌, ◌^◌, ◌<◌, ◌≤◌, List, [], ◌∷◌, length, take, get_or, true, refl, sym, ap, ◌∙◌, inl, inr, arith}
use Rattle.std.specs.Prelude.{nat_le, nat_lt}
use Rattle.std.proofs.Math.Nat.{pow-suc, pow-le-pow_right, mul-le-mul}
use Rattle.std.proofs.lemmas.Bool.{cases_lt, le-leb, lt-leb, lt-ltb, leb-true, ltb-true, and_parts}
use Rattle.std.proofs.lemmas.List.Sums.{prefix_len_is}
use Rattle.string_interner.specs.Spelling.{value, front_len, front_value, has_front}

-- the next digit is worth 128 times the one before it
pub value-take_more : (bytes : List ℕ) (i : ℕ) → i < length bytes → value (take (i + 1) bytes) ≡ value (take i bytes) + get_or bytes i 0 % 128 * 128 ^ i
value-take_more [] i h = absurd (omega arith)
value-take_more (b ∷ bytes) zero h = omega arith
value-take_more (b ∷ bytes) (suc i) h =
    let n : suc i + 1 ≡ suc (i + 1) = omega arith in
    let more : value (take (i + 1) bytes) ≡ value (take i bytes) + get_or bytes i 0 % 128 * 128 ^ i = value-take_more bytes i (omega arith) in
    rw (n, pow-suc 128 i) (omega arith)

-- the digits before the place `i` are worth less than it
pub value-below : (bytes : List ℕ) (i : ℕ) → i ≤ length bytes → value (take i bytes) < 128 ^ i
value-below bytes zero h = omega arith
value-below [] (suc i) h = absurd (omega arith)
value-below (b ∷ bytes) (suc i) h = omega (arith, value-below bytes i (omega arith), pow-suc 128 i)

-- the place of a digit that others follow, and of the one behind it
pub unit-small : (i : ℕ) → i ≤ 8 → 128 ^ i ≤ 2 ^ 56
unit-small i h = pow-le-pow_right {n = 128} (omega arith) {i = i} {j = 8} h

-- a digit of the first nine, or a tenth of at most one, leaves a number that fits
pub digit_fits : (bytes : List ℕ) (i unit number digit : ℕ) → i ≤ 9 → i ≤ length bytes → (i ≡ 9 → get_or bytes i 0 ≤ 1) → number ≡ value (take i bytes) → unit ≡ 128 ^ i → digit ≡ get_or bytes i 0 % 128 → number + digit * unit < 2 ^ 64
digit_fits bytes i unit number digit few h tenth n u d =
    let small : number < unit = rw (n, u) (value-below bytes i h) in
    elim (cases_lt i 9) [
      | inl lt ↦
          let low : unit ≤ 2 ^ 56 = rw u (unit-small i (omega arith)) in
          let p : digit * unit ≤ 127 * 2 ^ 56 = mul-le-mul {n₁ = digit} {m₁ = unit} {n₂ = 127} {m₂ = 2 ^ 56} (omega arith) low in
          omega arith
      | inr ge ↦
          let nine : i ≡ 9 = omega arith in
          let high : unit ≡ 2 ^ 63 = u ∙ ap (λ (k : ℕ). 128 ^ k) nine in
          let one : get_or bytes i 0 ≤ 1 = tenth nine in
          let p : digit * unit ≤ 1 * 2 ^ 63 = mul-le-mul {n₁ = digit} {m₁ = unit} {n₂ = 1} {m₂ = 2 ^ 63} (omega arith) (omega arith) in
          omega arith
    ]

-- the digits end at the first byte that is not marked
pub front_len_ends : (bytes : List ℕ) (n : ℕ) → n < length bytes → ((k : ℕ) → k < n → 128 ≤ get_or bytes k 0) → get_or bytes n 0 < 128 → front_len bytes ≡ n + 1
front_len_ends bytes n h marked last =
    let e = prefix_len_is (nat_le 128) bytes n 0 (omega arith) (λ k lt. le-leb 128 (get_or bytes k 0) (marked k lt)) (λ _. lt-leb 128 (get_or bytes n 0) last) in
    omega (arith, e)

-- and go on past marked ones
pub front_len_goes : (bytes : List ℕ) (n : ℕ) → n ≤ length bytes → ((k : ℕ) → k < n → 128 ≤ get_or bytes k 0) → n < front_len bytes
front_len_goes bytes zero h marked = omega arith
front_len_goes [] (suc n) h marked = absurd (omega arith)
front_len_goes (b ∷ bytes) (suc n) h marked =
    let first : nat_le 128 b ≡ true = le-leb 128 b (marked 0 (omega arith)) in
    rw first (omega (arith, front_len_goes bytes n (omega arith) (λ k lt. marked (suc k) (omega arith))))

-- what the test of the front says
pub front_there : (bytes : List ℕ) → has_front bytes ≡ true → (front_len bytes ≤ length bytes) × (front_len bytes ≤ 10) × (front_value bytes < 2 ^ 64)
front_there bytes h =
    let p = and_parts (nat_le (front_len bytes) (length bytes)) _ h in
    let q = and_parts (nat_le (front_len bytes) 10) (nat_lt (front_value bytes) (2 ^ 64)) p.1 in
    (leb-true _ _ p.0, leb-true _ _ q.0, ltb-true _ _ q.1)

pub has_front-there : (bytes : List ℕ) → front_len bytes ≤ length bytes → front_len bytes ≤ 10 → front_value bytes < 2 ^ 64 → has_front bytes ≡ true
has_front-there bytes there ten small = rw (le-leb _ _ there, le-leb _ _ ten, lt-ltb _ _ small) refl

-- a tenth digit of more than one is none: the number does not fit, or an eleventh follows
pub no_tenth : (bytes : List ℕ) (i : ℕ) → i ≡ 9 → i < length bytes → ((k : ℕ) → k < i → 128 ≤ get_or bytes k 0) → 1 < get_or bytes i 0 → has_front bytes ≡ true → ⊥
no_tenth bytes i nine h marked more is =
    let f = front_there bytes is in
    elim (cases_lt (get_or bytes i 0) 128) [
      | inl lt ↦
          let len : front_len bytes ≡ i + 1 = front_len_ends bytes i h marked lt in
          let all : front_value bytes ≡ value (take i bytes) + get_or bytes i 0 % 128 * 128 ^ i = ap (λ (n : ℕ). value (take n bytes)) len ∙ value-take_more bytes i h in
          let unit : 128 ^ i ≡ 2 ^ 63 = ap (λ (k : ℕ). 128 ^ k) nine in
          let p : 2 * 2 ^ 63 ≤ get_or bytes i 0 % 128 * 128 ^ i = mul-le-mul {n₁ = 2} {m₁ = 2 ^ 63} {n₂ = get_or bytes i 0 % 128} {m₂ = 128 ^ i} (omega arith) (omega arith) in
          omega (arith, f.2)
      | inr ge ↦
          let len : i + 1 < front_len bytes = front_len_goes bytes (i + 1) (omega arith) (below_more (λ k. 128 ≤ get_or bytes k 0) i marked ge) in
          omega (arith, f.1)
    ]

-- the number that was read is that of the front
pub record IsFront (bytes : List ℕ) (i number : ℕ) : Type 0 where
  pub there : has_front bytes ≡ true
  pub number_is : number ≡ front_value bytes
  pub len_is : i + 1 ≡ front_len bytes

-- where the last digit was read, the number that it completes stands at the front
pub front_ends : (bytes : List ℕ) (i unit number digit : ℕ) → i ≤ 9 → i < length bytes → (i ≡ 9 → get_or bytes i 0 ≤ 1) → ((k : ℕ) → k < i → 128 ≤ get_or bytes k 0) → get_or bytes i 0 < 128
    → number ≡ value (take i bytes) → unit ≡ 128 ^ i → digit ≡ get_or bytes i 0 % 128 → IsFront bytes i (number + digit * unit)
front_ends bytes i unit number digit few h tenth marked last n u d =
    let len : front_len bytes ≡ i + 1 = front_len_ends bytes i h marked last in
    let all : number + digit * unit ≡ front_value bytes = rw (n, u, d) (sym (ap (λ (n : ℕ). value (take n bytes)) len ∙ value-take_more bytes i h)) in
    let fits = digit_fits bytes i unit number digit few (omega arith) tenth n u d in
    record { there = has_front-there bytes (omega arith) (omega arith) (omega arith); number_is = all; len_is = sym len }
