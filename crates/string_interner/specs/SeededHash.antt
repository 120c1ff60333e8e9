-- What a hasher of `SeededState` computes. Each product of a code has a secret in both of its operands.
-- Cited by `SeededState` and `SeededHash`.
use Rattle.std.specs.Prelude.{ℕ, ◌+◌, ◌-◌, ◌*◌, ◌/◌, ◌%◌, ◌^◌, [], ◌∷◌, List, length, take, drop, fold, if◌then◌else◌, nat_le, nat_lt, slice_index, bit_or, bit_xor}
use Rattle.std.specs.Int.{w32, w64, w128, from_le_bytes, rotate_left}
use Rattle.std.specs.Simd.{first_chunks}
use Rattle.string_interner.specs.Text.{Text}
use Rattle.string_interner.specs.declared.hash.seeded.SeededHash.{SeededHash}
use Rattle.string_interner.specs.declared.hash.seeded.SeededState.{SeededState}

-- the two words of a product of 128 bits, joined by xor
abbrev pub join_product : ℕ → ℕ → ℕ
join_product a b = bit_xor (a * b % 2 ^ 64) (a * b / 2 ^ 64)

-- the state after a block of two words: the state hides the first word, and the key the second
abbrev pub absorb : ℕ → ℕ → ℕ → ℕ
absorb key state block = join_product (bit_xor (block % 2 ^ 64) state) (bit_xor (block / 2 ^ 64) key)

-- the whole blocks of 16 bytes before the last byte
abbrev pub first_blocks : Text → List Text
first_blocks text = let before = take (length text - 1) text in first_chunks 16 (length before / 16) before

-- the block that ends a text: its last 16 bytes or, if it has fewer, what has each of its bytes: the first and the last 8 or 4, or
-- three single bytes
unfoldable pub last_block : Text → ℕ
last_block text =
    let n = length text in
    if nat_lt 8 n then from_le_bytes w64 (take 8 (drop (n - 16) text)) + from_le_bytes w64 (drop (n - 8) text) * 2 ^ 64
    else if nat_le 4 n then from_le_bytes w32 (take 4 text) + from_le_bytes w32 (drop (n - 4) text) * 2 ^ 32
    else if nat_lt 0 n then from_le_bytes w32 (slice_index text 0 ∷ slice_index text (n / 2) ∷ slice_index text (n - 1) ∷ 0 ∷ [])
    else 0

-- the state after all blocks of a text
unfoldable pub absorb_all : ℕ → ℕ → Text → ℕ
absorb_all key start text =
    let before = fold (λ state block. absorb key state (from_le_bytes w128 block)) start (first_blocks text) in
    absorb key before (last_block text)

-- a hasher to which nothing was written
abbrev pub with_keys : SeededState → SeededHash
with_keys keys = record { state = keys.key0; key0 = keys.key0; key1 = keys.key1 }

-- the hasher after `write(text)`: the length turns a key, from which the first state is made
abbrev pub write : SeededHash → Text → SeededHash
write hasher text =
    record hasher { state = absorb_all hasher.key1 (bit_xor hasher.state (rotate_left w64 hasher.key1 (length text % 64))) text }

-- the code: one more product, of which no factor is public
abbrev pub finish : SeededHash → ℕ
finish hasher = join_product (bit_xor hasher.state hasher.key1) (bit_or hasher.key0 1)
