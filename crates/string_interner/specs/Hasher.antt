-- The code of a text under the default hasher, and under a hasher of the standard library.
-- Cited by `FixedState` and `StdHasher`.
use Rattle.std.specs.Prelude.{ℕ, ◌*◌, ◌^◌, ◌%◌, bit_xor, fold}
use Rattle.string_interner.specs.Text.{Text}

-- 64-bit FNV-1a: each byte is xored into the code, which is then multiplied by the prime, modulo 2 ^ 64
abbrev pub fnv_1a : Text → ℕ
fnv_1a text = fold (λ code byte. (bit_xor code byte * 0x100000001B3) % 2 ^ 64) 0xCBF29CE484222325 text

-- what a hasher of the standard library finishes with, once all bytes of the text were written to it in one call
abbrev pub one_write : {H : Type 0} → (H → Text → H) → (H → ℕ) → H → Text → ℕ
one_write write finish hasher text = finish (write hasher text)
