-- Words of slots, by hand: 32 bits of a code that the default hasher gives for a known text, and below them a number plus one.
use Rattle.std.proofs.Common.{◌≡◌, ◌-◌, ◌^◌, Some, None, refl}
use Rattle.string_interner.specs.Symbol.{number_below}
use Rattle.string_interner.specs.Tagged.{stored_code}
use Rattle.string_interner.specs.Words.{slot_of}

pub word-of-no-text : slot_of (number_below (2 ^ 32 - 1)) 0 ≡ None
word-of-no-text = refl

-- `foobar` as the first text
pub word-of-foobar : slot_of (number_below (2 ^ 32 - 1)) 0xF739_67E8_0000_0001 ≡ Some (record { symbol = 0; code = stored_code 0x8594_4171_F739_67E8 })
word-of-foobar = refl

-- `a` as the last text that has a symbol
pub word-of-the-last : slot_of (number_below (2 ^ 32 - 1)) 0x8601_EC8C_FFFF_FFFF ≡ Some (record { symbol = 2 ^ 32 - 2; code = stored_code 0xAF63_DC4C_8601_EC8C })
word-of-the-last = refl
