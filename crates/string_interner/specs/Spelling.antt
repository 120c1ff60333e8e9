-- Numbers in unsigned LEB128: how one is encoded in bytes, and what the bytes at the front of a list decode as.
-- Cited by the definitions of the byte buffer, and by what reads and writes a length.
use Rattle.std.specs.Prelude.{ℕ, zero, suc, Bool, ◌+◌, ◌*◌, ◌/◌, ◌%◌, ◌^◌, ◌<◌, ◌≤◌, ◌&&◌, List, [], ◌∷◌, length, take, drop, nat_lt, nat_le, if◌then◌else◌, Option, IsTrue, SomeIff}
use Rattle.std.specs.List.{prefix_len}
use Rattle.string_interner.specs.declared.backend.buffer.leb128.Spelled.{Spelled}

-- A number in base 128, its lowest digit first. 128 is added to every digit but the last. There are at most `more`
-- digits after the first, which only bounds the recursion.
unfoldable pub spell_within : ℕ → ℕ → List ℕ
spell_within zero n = n ∷ []
spell_within (suc more) n = if nat_lt n 128 then n ∷ [] else (128 + n % 128) ∷ spell_within more (n / 128)

-- an encoded number: `n` bounds its digits after the first, which is enough
unfoldable pub spell : ℕ → List ℕ
spell n = spell_within n n

-- the number of digits
unfoldable pub digits : ℕ → ℕ
digits n = length (spell n)

-- the least number of digits, from one on, that is enough for a number
pub record IsLeastDigitCount (n count : ℕ) : Type 0 where
  pub positive : 1 ≤ count
  pub enough : n < 128 ^ count
  pub least : (k : ℕ) → 1 ≤ k → n < 128 ^ k → count ≤ k

-- the bytes of an encoded number, maybe with more digits than it needs: all but the last are 128 or more
abbrev pub IsChain : List ℕ → Type 0
IsChain [] = ⊥
IsChain (b ∷ []) = b < 128
IsChain (b ∷ c ∷ bytes) = (128 ≤ b) × IsChain (c ∷ bytes)

-- the number that they encode: the sum of (byte j mod 128) * 128 ^ j
abbrev pub value : List ℕ → ℕ
value [] = 0
value (b ∷ bytes) = b % 128 + 128 * value bytes

-- the length of the front: the bytes up to and with the first below 128
abbrev pub front_len : List ℕ → ℕ
front_len bytes = prefix_len (nat_le 128) bytes + 1

-- the number that the front encodes
abbrev pub front_value : List ℕ → ℕ
front_value bytes = value (take (front_len bytes) bytes)

-- what comes after the front
abbrev pub after_front : List ℕ → List ℕ
after_front bytes = drop (front_len bytes) bytes

-- the front is complete, has at most ten bytes, and its number fits a `usize`
abbrev pub has_front : List ℕ → Bool
has_front bytes = nat_le (front_len bytes) (length bytes) && (nat_le (front_len bytes) 10 && nat_lt (front_value bytes) (2 ^ 64))

-- the number at the front is decoded, with the front's length, exactly if `has_front`
abbrev pub DecodesFront : List ℕ → Option Spelled → Type 0
DecodesFront bytes decoded = SomeIff decoded (IsTrue (has_front bytes)) (record { number = front_value bytes; len = front_len bytes })
