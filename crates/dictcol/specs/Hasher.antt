-- The code of a line.
-- Cited by `hasher`.
use Rattle.std.specs.Prelude.{ℕ}
use Rattle.string_interner.specs.Text.{Text}
use Rattle.string_interner.specs.Hasher.{one_write}
use Rattle.string_interner.specs.SeededHash as seeded
use Rattle.string_interner.specs.declared.hash.seeded.SeededState.{SeededState}

-- under the seeded hasher with these keys
abbrev pub seeded_code : SeededState → Text → ℕ
seeded_code keys text = one_write seeded.write seeded.finish (seeded.with_keys keys) text
