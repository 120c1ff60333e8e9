-- Bytes are ASCII where no word of them has the high bit of a byte.
use Rattle.std.proofs.Common.{ℕ, zero, suc, ◌≡◌, ◌∙◌, List, [], ◌∷◌, sym, ap, ◌+◌, ◌-◌, ◌*◌, ◌<◌, ◌≤◌, length, get_or, take, drop, bit_and, bit_or, IsAscii, ⊎_elim, arith}
use Rattle.std.specs.Int.{w32, w64, from_le_bytes}
use Rattle.std.proofs.lemmas.Nat.{and_block, le_or_l, le_or_r}
use Rattle.std.proofs.lemmas.Bool.{cases_order}
use Rattle.std.proofs.lemmas.List.{get_or-take, get_or-drop, get_or_past}

-- the number with byte `f k` lowest, `f (k + 1)` above it, and so on
abbrev digits : (ℕ → ℕ) → ℕ → ℕ → ℕ
digits f k zero = 0
digits f k (suc n) = digits f (suc k) n * 256 + f k

low_byte : (b : ℕ) → b < 256 → bit_and b 128 ≡ 0 → b < 128
low_byte b small none = ⊎_elim (λ same. high (omega (arith, same))) (⊎_elim (λ low. low) (λ more. high (omega (arith, more)))) (cases_order b 128)
  where
    high : 128 ≤ b → b < 128
    high h =
        let whole : b ≡ 1 * 128 + (b - 128) = omega arith in
        let bit = ap (λ x. bit_and x 128) whole ∙ and_block 7 1 1 (b - 128) 0 (omega arith) (omega arith) in
        omega (arith, bit, none)

low_digits : (f : ℕ → ℕ) → ((k : ℕ) → f k < 256) → (n k : ℕ) → bit_and (digits f k n) (digits (λ _. 128) k n) ≡ 0
    → (i : ℕ) → i < n → f (k + i) < 128
low_digits f small zero k none i within = omega arith
low_digits f small (suc n) k none i within =
    let parts = and_block 8 (digits f (suc k) n) (digits (λ _. 128) (suc k) n) (f k) 128 (small k) (omega arith) in
    at i within (omega (arith, parts, none)) (low_digits f small n (suc k) (omega (arith, parts, none)))
  where
    at : (i : ℕ) → i < suc n → bit_and (f k) 128 ≡ 0 → ((i : ℕ) → i < n → f (suc k + i) < 128) → f (k + i) < 128
    at zero _ here _ = let same : k + 0 ≡ k = omega arith in omega (arith, low_byte (f k) (small k) here, ap f same)
    at (suc i) l _ rest = let same : k + suc i ≡ suc k + i = omega arith in omega (arith, rest i (omega arith), ap f same)

low_from : (f : ℕ → ℕ) → ((k : ℕ) → f k < 256) → (n : ℕ) → bit_and (digits f 0 n) (digits (λ _. 128) 0 n) ≡ 0
    → (i : ℕ) → i < n → f i < 128
low_from f small n none i within = let same : 0 + i ≡ i = omega arith in omega (arith, low_digits f small n 0 none i within, ap f same)

spelt_8 : (f : ℕ → ℕ) (m : ℕ)
    → m ≡ f 0 + f 1 * 256 + f 2 * 65536 + f 3 * 16777216 + f 4 * 4294967296 + f 5 * 1099511627776 + f 6 * 281474976710656 + f 7 * 72057594037927936
    → m ≡ digits f 0 8
spelt_8 f m is = omega (arith, is)

spelt_4 : (f : ℕ → ℕ) (m : ℕ) → m ≡ f 0 + f 1 * 256 + f 2 * 65536 + f 3 * 16777216 → m ≡ digits f 0 4
spelt_4 f m is = omega (arith, is)

low_8 : (xs : List ℕ) (m : ℕ) → ((i : ℕ) → get_or xs i 0 < 256) → m ≡ from_le_bytes w64 xs → bit_and m 0x8080_8080_8080_8080 ≡ 0
    → (i : ℕ) → i < 8 → get_or xs i 0 < 128
low_8 xs m small is none =
    let spelt = spelt_8 (λ k. get_or xs k 0) m is in
    low_from (λ k. get_or xs k 0) small 8 (ap (λ x. bit_and x 0x8080_8080_8080_8080) (sym spelt) ∙ none)

low_4 : (xs : List ℕ) (m : ℕ) → ((i : ℕ) → get_or xs i 0 < 256) → m ≡ from_le_bytes w32 xs → bit_and m 0x8080_8080 ≡ 0
    → (i : ℕ) → i < 4 → get_or xs i 0 < 128
low_4 xs m small is none =
    let spelt = spelt_4 (λ k. get_or xs k 0) m is in
    low_from (λ k. get_or xs k 0) small 4 (ap (λ x. bit_and x 0x8080_8080) (sym spelt) ∙ none)

-- the first `k` and the last `k` bytes are all there are
ends : (k : ℕ) (xs : List ℕ) → k ≤ length xs → length xs ≤ k + k → ((i : ℕ) → i < k → get_or (take k xs) i 0 < 128)
    → ((i : ℕ) → i < k → get_or (drop (length xs - k) xs) i 0 < 128) → IsAscii xs
ends k xs least most first last i = ⊎_elim (λ same. later (omega (arith, same))) (⊎_elim early (λ more. later (omega (arith, more)))) (cases_order i k)
  where
    early : i < k → get_or xs i 0 < 128
    early before = omega (arith, first i before, get_or-take k xs i 0 before)

    past : length xs ≤ i → get_or xs i 0 < 128
    past beyond = omega (arith, get_or_past xs i 0 beyond)

    within : k ≤ i → i < length xs → get_or xs i 0 < 128
    within from before =
        let there : length xs - k + (i - (length xs - k)) ≡ i = omega arith in
        omega (arith, last (i - (length xs - k)) (omega arith), get_or-drop (length xs - k) xs (i - (length xs - k)) 0, ap (λ j. get_or xs j 0) there)

    later : k ≤ i → get_or xs i 0 < 128
    later from = ⊎_elim (λ same. past (omega (arith, same))) (⊎_elim (within from) (λ more. past (omega (arith, more)))) (cases_order i (length xs))

take-small : (k : ℕ) (xs : List ℕ) → ((i : ℕ) → get_or xs i 0 < 256) → (i : ℕ) → get_or (take k xs) i 0 < 256
take-small zero xs small i = omega arith
take-small (suc k) [] small i = omega arith
take-small (suc k) (x ∷ xs) small zero = small zero
take-small (suc k) (x ∷ xs) small (suc i) = take-small k xs (λ j. small (suc j)) i

drop-small : (k : ℕ) (xs : List ℕ) → ((i : ℕ) → get_or xs i 0 < 256) → (i : ℕ) → get_or (drop k xs) i 0 < 256
drop-small k xs small i = omega (arith, small (k + i), get_or-drop k xs i 0)

neither : {a b : ℕ} → bit_or a b ≡ 0 → (a ≡ 0) × (b ≡ 0)
neither {a} {b} none = (omega (arith, le_or_l a b, none), omega (arith, le_or_r a b, none))

pub eights_are_ascii : (xs : List ℕ) (m n : ℕ) → 8 ≤ length xs → length xs ≤ 16 → ((i : ℕ) → get_or xs i 0 < 256)
    → m ≡ from_le_bytes w64 (take 8 xs) → n ≡ from_le_bytes w64 (drop (length xs - 8) xs)
    → bit_or (bit_and m 0x8080_8080_8080_8080) (bit_and n 0x8080_8080_8080_8080) ≡ 0 → IsAscii xs
eights_are_ascii xs m n least most small at_m at_n none = ends 8 xs least most
    (low_8 (take 8 xs) m (take-small 8 xs small) at_m (neither none).0) (low_8 (drop (length xs - 8) xs) n (drop-small _ xs small) at_n (neither none).1)

pub fours_are_ascii : (xs : List ℕ) (m n : ℕ) → 4 ≤ length xs → length xs ≤ 8 → ((i : ℕ) → get_or xs i 0 < 256)
    → m ≡ from_le_bytes w32 (take 4 xs) → n ≡ from_le_bytes w32 (drop (length xs - 4) xs)
    → bit_or (bit_and m 0x8080_8080) (bit_and n 0x8080_8080) ≡ 0 → IsAscii xs
fours_are_ascii xs m n least most small at_m at_n none = ends 4 xs least most
    (low_4 (take 4 xs) m (take-small 4 xs small) at_m (neither none).0) (low_4 (drop (length xs - 4) xs) n (drop-small _ xs small) at_n (neither none).1)
