-- Tags of the codes that the default hasher gives for known texts.
use Rattle.std.proofs.Common.{◌≡◌, refl}
use Rattle.string_interner.specs.Tagged.{stored_code, tag_of}

-- of the empty text
pub tag-of-empty : tag_of (stored_code 0xCBF2_9CE4_8422_2325) ≡ 0xC2
tag-of-empty = refl

-- `a`
pub tag-of-a : tag_of (stored_code 0xAF63_DC4C_8601_EC8C) ≡ 0xC3
tag-of-a = refl

-- `foobar`
pub tag-of-foobar : tag_of (stored_code 0x8594_4171_F739_67E8) ≡ 0xFB
tag-of-foobar = refl
