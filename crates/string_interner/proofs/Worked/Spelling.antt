-- The bytes of a number in base 128: vectors of unsigned LEB128, the lowest digit first.
use Rattle.std.proofs.Common.{◌≡◌, ℕ, zero, suc, ◌+◌, ◌-◌, ◌*◌, ◌/◌, ◌%◌, ◌^◌, ◌<◌, List, [], ◌∷◌, length, refl, sym, ap, ◌∙◌, inl, inr, arith}
use Rattle.std.proofs.lemmas.Bool.{cases_lt, lt-ltb, le-ltb}
use Rattle.std.proofs.lemmas.Grind.{pow_more}
use Rattle.string_interner.specs.Spelling.{spell_within, spell, digits}
use Rattle.string_interner.specs.BufferLaws.{spell-small, spell-large, length-spell}

-- A number of few digits is spelled within so many, which computes in so many steps, where `spell` takes one for each of
-- the numbers below.
within : (more n : ℕ) → n < 128 ^ (more + 1) → spell n ≡ spell_within more n
unfolding spell_within
within zero n below = spell-small n (omega arith)
within (suc more) n below =
    elim (cases_lt n 128) as (λ _. spell n ≡ spell_within (suc more) n) [
      | inl small ↦
          let one : spell_within (suc more) n ≡ n ∷ [] = rw (lt-ltb n 128 small) refl in
          spell-small n small ∙ sym one
      | inr large ↦
          let power : 128 ^ (suc more + 1) ≡ 128 ^ suc more * 128 = pow_more 128 (suc more) in
          let same : 128 ^ suc more ≡ 128 ^ (more + 1) = ap (λ (i : ℕ). 128 ^ i) (let e : suc more ≡ more + 1 = omega arith in e) in
          let rest : spell (n / 128) ≡ spell_within more (n / 128) = within more (n / 128) (omega arith) in
          let step : spell_within (suc more) n ≡ (128 + n % 128) ∷ spell_within more (n / 128) = rw (le-ltb n 128 large) refl in
          spell-large n large ∙ ap (λ (later : List ℕ). (128 + n % 128) ∷ later) rest ∙ sym step
    ]

-- no length has more than ten digits
within_ten : (n : ℕ) → n < 2 ^ 64 → spell n ≡ spell_within 9 n
within_ten n fits = within 9 n (omega arith)

pub spelled-0 : spell 0 ≡ 0x00 ∷ []
unfolding spell_within
spelled-0 = within_ten 0 (omega arith)

pub spelled-5 : spell 5 ≡ 0x05 ∷ []
unfolding spell_within
spelled-5 = within_ten 5 (omega arith)

-- the last number of one byte, and the first of two
pub spelled-127 : spell 127 ≡ 0x7F ∷ []
unfolding spell_within
spelled-127 = within_ten 127 (omega arith)

pub spelled-128 : spell 128 ≡ 0x80 ∷ 0x01 ∷ []
unfolding spell_within
spelled-128 = within_ten 128 (omega arith)

-- the last number of two bytes, and the first of three
pub spelled-16383 : spell 16383 ≡ 0xFF ∷ 0x7F ∷ []
unfolding spell_within
spelled-16383 = within_ten 16383 (omega arith)

pub spelled-16384 : spell 16384 ≡ 0x80 ∷ 0x80 ∷ 0x01 ∷ []
unfolding spell_within
spelled-16384 = within_ten 16384 (omega arith)

-- lengths about the last place of two bytes
pub spelled-65531 : spell 65531 ≡ 0xFB ∷ 0xFF ∷ 0x03 ∷ []
unfolding spell_within
spelled-65531 = within_ten 65531 (omega arith)

pub spelled-65532 : spell 65532 ≡ 0xFC ∷ 0xFF ∷ 0x03 ∷ []
unfolding spell_within
spelled-65532 = within_ten 65532 (omega arith)

pub spelled-65533 : spell 65533 ≡ 0xFD ∷ 0xFF ∷ 0x03 ∷ []
unfolding spell_within
spelled-65533 = within_ten 65533 (omega arith)

-- the greatest numbers of 32 and of 64 bits
pub spelled-32-bits : spell (2 ^ 32 - 1) ≡ 0xFF ∷ 0xFF ∷ 0xFF ∷ 0xFF ∷ 0x0F ∷ []
unfolding spell_within
spelled-32-bits = within_ten 4294967295 (omega arith)

pub spelled-64-bits : spell (2 ^ 64 - 1) ≡ 0xFF ∷ 0xFF ∷ 0xFF ∷ 0xFF ∷ 0xFF ∷ 0xFF ∷ 0xFF ∷ 0xFF ∷ 0xFF ∷ 0x01 ∷ []
unfolding spell_within
spelled-64-bits = within_ten 18446744073709551615 (omega arith)

-- how many bytes these take
pub digits-127 : digits 127 ≡ 1
digits-127 = sym (length-spell 127) ∙ ap length spelled-127

pub digits-128 : digits 128 ≡ 2
digits-128 = sym (length-spell 128) ∙ ap length spelled-128

pub digits-16383 : digits 16383 ≡ 2
digits-16383 = sym (length-spell 16383) ∙ ap length spelled-16383

pub digits-16384 : digits 16384 ≡ 3
digits-16384 = sym (length-spell 16384) ∙ ap length spelled-16384

pub digits-65531 : digits 65531 ≡ 3
digits-65531 = sym (length-spell 65531) ∙ ap length spelled-65531

pub digits-65532 : digits 65532 ≡ 3
digits-65532 = sym (length-spell 65532) ∙ ap length spelled-65532

pub digits-65533 : digits 65533 ≡ 3
digits-65533 = sym (length-spell 65533) ∙ ap length spelled-65533

pub digits-32-bits : digits (2 ^ 32 - 1) ≡ 5
digits-32-bits = sym (length-spell 4294967295) ∙ ap length spelled-32-bits

pub digits-64-bits : digits (2 ^ 64 - 1) ≡ 10
digits-64-bits = sym (length-spell 18446744073709551615) ∙ ap length spelled-64-bits
