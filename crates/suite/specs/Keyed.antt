-- The code of a text under two keys.
-- Cited by the hasher `Keyed` of the scenarios; no contract of the library speaks of it.
use Rattle.std.specs.Prelude.{ℕ}
use Rattle.std.specs.Hash.DefaultHasher as sip
use Rattle.string_interner.specs.Text.{Text}
use Rattle.string_interner.specs.Hasher.{one_write}

-- under SipHash-1-3 with these keys
abbrev pub keyed_code : ℕ → ℕ → Text → ℕ
keyed_code key0 key1 text = one_write sip.write sip.finish (sip.with_keys key0 key1) text
