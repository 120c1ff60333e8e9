-- Texts joined in one, and where each ends, also beyond 2^32.
use Rattle.std.proofs.Common.{◌≡◌, List, [], ◌∷◌, length, refl}
use Rattle.string_interner.specs.Text.{Text}
use Rattle.string_interner.specs.StringBackend.{cut, joined, ends_of, start_at}

-- `a`, the empty text, `é`, and `a` again
abbrev texts : List Text
texts = (0x61 ∷ []) ∷ [] ∷ (0xC3 ∷ 0xA9 ∷ []) ∷ (0x61 ∷ []) ∷ []

pub joined-repeats : joined texts ≡ 0x61 ∷ 0xC3 ∷ 0xA9 ∷ 0x61 ∷ []
joined-repeats = refl

pub ends-of-repeats : ends_of 0 texts ≡ 1 ∷ 1 ∷ 3 ∷ 4 ∷ []
ends-of-repeats = refl

pub cut-at-the-ends : cut 0 (0x61 ∷ 0xC3 ∷ 0xA9 ∷ 0x61 ∷ []) (1 ∷ 1 ∷ 3 ∷ 4 ∷ []) ≡ texts
cut-at-the-ends = refl

-- the greatest end that fits 32 bits, and the end of `a` after it, which does not
pub ends-at-the-border : (long : Text) → length long ≡ 4294967295 → ends_of 0 (long ∷ (0x61 ∷ []) ∷ []) ≡ 4294967295 ∷ 4294967296 ∷ []
ends-at-the-border long n = rw n refl

pub start-at-the-border : start_at (4294967295 ∷ 4294967296 ∷ []) 1 ≡ 4294967295
start-at-the-border = refl
