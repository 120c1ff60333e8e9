-- Codes of the default hasher: the vectors that Fowler, Noll and Vo published for 64-bit FNV-1a.
use Rattle.std.proofs.Common.{◌≡◌, [], ◌∷◌, refl}
use Rattle.string_interner.specs.Hasher.{fnv_1a}

pub code-of-empty : fnv_1a [] ≡ 0xCBF2_9CE4_8422_2325
code-of-empty = refl

-- `a`
pub code-of-a : fnv_1a (0x61 ∷ []) ≡ 0xAF63_DC4C_8601_EC8C
code-of-a = refl

-- `foobar`
pub code-of-foobar : fnv_1a (0x66 ∷ 0x6F ∷ 0x6F ∷ 0x62 ∷ 0x61 ∷ 0x72 ∷ []) ≡ 0x8594_4171_F739_67E8
code-of-foobar = refl
