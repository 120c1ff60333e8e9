-- Capacities of buckets, as texts come: a new head has the least power of two above the capacity of the old one and the
-- length of the text.
use Rattle.std.proofs.Common.{◌≡◌, ℕ, suc, ◌+◌, ◌*◌, ◌/◌, ◌^◌, ◌<◌, ◌≤◌, max, true, false, List, [], ◌∷◌, ◌++◌, length, refl, ap, ◌∙◌, inl, inr, arith}
use Rattle.std.proofs.Math.Nat.{pow-succ'}
use Rattle.std.proofs.Math.Pow.{pow_mono}
use Rattle.std.proofs.lemmas.Bool.{cases_lt}
use Rattle.std.specs.Int.{IsNextPowerOfTwo}
use Rattle.string_interner.specs.Text.{Text}
use Rattle.string_interner.specs.Backend.{Bucket}
use Rattle.string_interner.specs.BucketBackend.{buckets_of, total_capacity, byte_count, copied_bytes, Puts}

-- the power of two from a number on, and below twice that number
next_power : (n j p : ℕ) → n ≤ 2 ^ j → 2 ^ j < 2 * n → IsNextPowerOfTwo n p → p ≡ 2 ^ j
next_power n j p above below next =
    let k : ℕ = next.0.0 in
    let is : p ≡ 2 ^ k = next.0.1 in
    let reaches : n ≤ p = next.1 in
    let least : p / 2 < max 1 n = next.2 in
    elim (cases_lt k j) as (λ _. p ≡ 2 ^ j) [
      | inl lower ↦
          let a : 2 ^ suc k ≤ 2 ^ j = pow_mono {i = suc k} {j = j} (omega arith) in
          let b : 2 ^ suc k ≡ 2 * 2 ^ k = pow-succ' 2 k in
          absurd (omega arith)
      | inr higher ↦ elim (cases_lt j k) as (λ _. p ≡ 2 ^ j) [
        | inl above_it ↦
            let a : 2 ^ suc j ≤ 2 ^ k = pow_mono {i = suc j} {j = k} (omega arith) in
            let b : 2 ^ suc j ≡ 2 * 2 ^ j = pow-succ' 2 j in
            absurd (omega arith)
        | inr not_above ↦ is ∙ ap (λ (i : ℕ). 2 ^ i) (let e : k ≡ j = omega arith in e)
      ]
    ]

-- A text that goes into these buckets leads to these older ones, and to a head of this capacity with these bytes.
abbrev LeadsTo : Text → List Bucket → Bucket → List Bucket → ℕ → List ℕ → Type 0
LeadsTo text full head full_after capacity bytes =
    (new_full : List Bucket) (new_head : Bucket) → Puts text full head new_full new_head
    → (new_full ≡ full_after) × (new_head.capacity ≡ capacity) × (new_head.bytes ≡ bytes)

goes_in : (text : Text) (full : List Bucket) (head : Bucket) → length head.bytes + length text ≤ head.capacity
    → LeadsTo text full head full head.capacity (head.bytes ++ text)
goes_in text full head room new_full new_head puts =
    let put = puts.fits room in (put.0, ap (λ (b : Bucket). b.capacity) put.1, ap (λ (b : Bucket). b.bytes) put.1)

begins : (text : Text) (full : List Bucket) (head : Bucket) (j : ℕ) → head.capacity < length head.bytes + length text
    → max head.capacity (length text) + 1 ≤ 2 ^ j → 2 ^ j < 2 * (max head.capacity (length text) + 1)
    → LeadsTo text full head (full ++ head ∷ []) (2 ^ j) text
begins text full head j long above below new_full new_head puts =
    let put = puts.too_long long in (put.0, next_power (max head.capacity (length text) + 1) j new_head.capacity above below put.2, put.1)

-- The heads that follow one another from an empty backend on.

abbrev empty : Bucket
empty = record { capacity = 0; bytes = [] }

-- `a`
abbrev of_2 : Bucket
of_2 = record { capacity = 2; bytes = 0x61 ∷ [] }

-- `bc`, and then `de`
abbrev of_4 : Bucket
of_4 = record { capacity = 4; bytes = 0x62 ∷ 0x63 ∷ [] }

abbrev of_4_filled : Bucket
of_4_filled = record { capacity = 4; bytes = 0x62 ∷ 0x63 ∷ 0x64 ∷ 0x65 ∷ [] }

-- `fghijklm`
abbrev eight_letters : Text
eight_letters = 0x66 ∷ 0x67 ∷ 0x68 ∷ 0x69 ∷ 0x6A ∷ 0x6B ∷ 0x6C ∷ 0x6D ∷ []

abbrev of_16 : Bucket
of_16 = record { capacity = 16; bytes = eight_letters }

pub head-with-the-empty-text : LeadsTo [] [] empty [] 0 []
head-with-the-empty-text = goes_in [] [] empty (omega arith)

pub head-with-a : LeadsTo (0x61 ∷ []) [] empty (empty ∷ []) 2 (0x61 ∷ [])
head-with-a = begins (0x61 ∷ []) [] empty 1 (omega arith) (omega arith) (omega arith)

pub head-with-bc : LeadsTo (0x62 ∷ 0x63 ∷ []) (empty ∷ []) of_2 (empty ∷ of_2 ∷ []) 4 (0x62 ∷ 0x63 ∷ [])
head-with-bc = begins (0x62 ∷ 0x63 ∷ []) (empty ∷ []) of_2 2 (omega arith) (omega arith) (omega arith)

pub head-with-bc-and-de : LeadsTo (0x64 ∷ 0x65 ∷ []) (empty ∷ of_2 ∷ []) of_4 (empty ∷ of_2 ∷ []) 4 (0x62 ∷ 0x63 ∷ 0x64 ∷ 0x65 ∷ [])
head-with-bc-and-de = goes_in (0x64 ∷ 0x65 ∷ []) (empty ∷ of_2 ∷ []) of_4 (omega arith)

pub head-with-eight-letters : LeadsTo eight_letters (empty ∷ of_2 ∷ []) of_4_filled (empty ∷ of_2 ∷ of_4_filled ∷ []) 16 eight_letters
head-with-eight-letters = begins eight_letters (empty ∷ of_2 ∷ []) of_4_filled 4 (omega arith) (omega arith) (omega arith)

-- All capacities, and all bytes, at each step.

pub capacities-with-a : total_capacity (buckets_of (empty ∷ []) of_2) ≡ 2
capacities-with-a = refl

pub capacities-with-bc : total_capacity (buckets_of (empty ∷ of_2 ∷ []) of_4) ≡ 6
capacities-with-bc = refl

pub bytes-with-bc : byte_count (buckets_of (empty ∷ of_2 ∷ []) of_4) ≡ 3
bytes-with-bc = refl

pub capacities-with-de : total_capacity (buckets_of (empty ∷ of_2 ∷ []) of_4_filled) ≡ 6
capacities-with-de = refl

pub bytes-with-de : byte_count (buckets_of (empty ∷ of_2 ∷ []) of_4_filled) ≡ 5
bytes-with-de = refl

pub capacities-with-eight-letters : total_capacity (buckets_of (empty ∷ of_2 ∷ of_4_filled ∷ []) of_16) ≡ 22
capacities-with-eight-letters = refl

pub bytes-with-eight-letters : byte_count (buckets_of (empty ∷ of_2 ∷ of_4_filled ∷ []) of_16) ≡ 13
bytes-with-eight-letters = refl

-- The clone of that, where `zz` is static: one head, which takes eight letters more before another head follows.

-- `abcdefghijklm`
abbrev thirteen_letters : Text
thirteen_letters = 0x61 ∷ 0x62 ∷ 0x63 ∷ 0x64 ∷ 0x65 ∷ eight_letters

-- `nopqrstu`
abbrev next_eight : Text
next_eight = 0x6E ∷ 0x6F ∷ 0x70 ∷ 0x71 ∷ 0x72 ∷ 0x73 ∷ 0x74 ∷ 0x75 ∷ []

abbrev of_21 : Bucket
of_21 = record { capacity = 21; bytes = thirteen_letters }

abbrev of_21_filled : Bucket
of_21_filled = record { capacity = 21; bytes = thirteen_letters ++ next_eight }

pub capacity-of-the-clone : of_16.capacity + byte_count (empty ∷ of_2 ∷ of_4_filled ∷ []) ≡ 21
capacity-of-the-clone = refl

pub bytes-of-the-clone : copied_bytes ([] ∷ (0x61 ∷ []) ∷ (0x62 ∷ 0x63 ∷ []) ∷ (0x64 ∷ 0x65 ∷ []) ∷ (0x7A ∷ 0x7A ∷ []) ∷ eight_letters ∷ []) (false ∷ false ∷ false ∷ false ∷ true ∷ false ∷ []) ≡ thirteen_letters
bytes-of-the-clone = refl

pub clone-takes-eight-letters : LeadsTo next_eight [] of_21 [] 21 (thirteen_letters ++ next_eight)
clone-takes-eight-letters = goes_in next_eight [] of_21 (omega arith)

pub head-after-the-clone : LeadsTo (0x76 ∷ []) [] of_21_filled (of_21_filled ∷ []) 32 (0x76 ∷ [])
head-after-the-clone = begins (0x76 ∷ []) [] of_21_filled 5 (omega arith) (omega arith) (omega arith)

pub capacities-after-the-clone : total_capacity (buckets_of (of_21_filled ∷ []) (record { capacity = 32; bytes = 0x76 ∷ [] })) ≡ 53
capacities-after-the-clone = refl

pub bytes-after-the-clone : byte_count (buckets_of (of_21_filled ∷ []) (record { capacity = 32; bytes = 0x76 ∷ [] })) ≡ 22
bytes-after-the-clone = refl

-- A first head of four bytes takes `abcd`, and `e` begins another.

abbrev asked_4 : Bucket
asked_4 = record { capacity = 4; bytes = [] }

abbrev asked_4_filled : Bucket
asked_4_filled = record { capacity = 4; bytes = 0x61 ∷ 0x62 ∷ 0x63 ∷ 0x64 ∷ [] }

abbrev of_8 : Bucket
of_8 = record { capacity = 8; bytes = 0x65 ∷ [] }

pub first-head-takes-four-letters : LeadsTo (0x61 ∷ 0x62 ∷ 0x63 ∷ 0x64 ∷ []) [] asked_4 [] 4 (0x61 ∷ 0x62 ∷ 0x63 ∷ 0x64 ∷ [])
first-head-takes-four-letters = goes_in (0x61 ∷ 0x62 ∷ 0x63 ∷ 0x64 ∷ []) [] asked_4 (omega arith)

pub head-after-the-first : LeadsTo (0x65 ∷ []) [] asked_4_filled (asked_4_filled ∷ []) 8 (0x65 ∷ [])
head-after-the-first = begins (0x65 ∷ []) [] asked_4_filled 3 (omega arith) (omega arith) (omega arith)

pub capacities-after-the-first : total_capacity (buckets_of (asked_4_filled ∷ []) of_8) ≡ 12
capacities-after-the-first = refl

pub bytes-after-the-first : byte_count (buckets_of (asked_4_filled ∷ []) of_8) ≡ 5
bytes-after-the-first = refl

pub capacity-of-its-clone : of_8.capacity + byte_count (asked_4_filled ∷ []) ≡ 12
capacity-of-its-clone = refl

-- Of `a`, `bc`, `de` the first is kept: the bytes of the others stay, and its clone has none of them.

pub capacity-of-the-clone-of-a : of_4_filled.capacity + byte_count (empty ∷ of_2 ∷ []) ≡ 5
capacity-of-the-clone-of-a = refl

pub bytes-of-the-clone-of-a : copied_bytes ((0x61 ∷ []) ∷ []) (false ∷ []) ≡ 0x61 ∷ []
bytes-of-the-clone-of-a = refl

-- `xy`
pub head-after-dropped-texts : LeadsTo (0x78 ∷ 0x79 ∷ []) (empty ∷ of_2 ∷ []) of_4_filled (empty ∷ of_2 ∷ of_4_filled ∷ []) 8 (0x78 ∷ 0x79 ∷ [])
head-after-dropped-texts = begins (0x78 ∷ 0x79 ∷ []) (empty ∷ of_2 ∷ []) of_4_filled 3 (omega arith) (omega arith) (omega arith)

pub capacities-after-dropped-texts : total_capacity (buckets_of (empty ∷ of_2 ∷ of_4_filled ∷ []) (record { capacity = 8; bytes = 0x78 ∷ 0x79 ∷ [] })) ≡ 14
capacities-after-dropped-texts = refl

pub bytes-after-dropped-texts : byte_count (buckets_of (empty ∷ of_2 ∷ of_4_filled ∷ []) (record { capacity = 8; bytes = 0x78 ∷ 0x79 ∷ [] })) ≡ 7
bytes-after-dropped-texts = refl

-- The static text `aa` alone: its clone has no bytes, and a head of capacity 0. The same text, copied, begins a head.

pub capacity-of-the-clone-of-static : empty.capacity + byte_count [] ≡ 0
capacity-of-the-clone-of-static = refl

pub bytes-of-the-clone-of-static : copied_bytes ((0x61 ∷ 0x61 ∷ []) ∷ []) (true ∷ []) ≡ []
bytes-of-the-clone-of-static = refl

pub head-with-aa : LeadsTo (0x61 ∷ 0x61 ∷ []) [] empty (empty ∷ []) 4 (0x61 ∷ 0x61 ∷ [])
head-with-aa = begins (0x61 ∷ 0x61 ∷ []) [] empty 2 (omega arith) (omega arith) (omega arith)
