-- Symbol types that have all numbers below a limit. A symbol is seen as its number.
-- Cited by the trait `Symbol`, by the symbol types of the library, and by slots.
use Rattle.std.specs.Prelude.{◌≡◌, ℕ, ◌-◌, ◌<◌, ◌≤◌, ◌^◌, Option, Some, None, nat_lt, if◌then◌else◌}
use Rattle.std.proofs.Common.{arith}
use Rattle.std.proofs.lemmas.Grind.{common_steps}

-- the symbol with a number, if that is below the limit
abbrev pub number_below : ℕ → ℕ → Option ℕ
number_below limit i = if nat_lt i limit then Some i else None

-- that symbol has that number, which fits a `usize`
pub number_below-some : (limit : ℕ) → limit ≤ 2 ^ 64 → (i n : ℕ) → number_below limit i ≡ Some n → (n ≡ i) × (i < 2 ^ 64)
number_below-some limit small i n h = grind (arith, common_steps)

-- no number from 2^32 - 1 on has a symbol
abbrev pub AreNarrow : {S : Type 0} → (ℕ → Option S) → Type 0
AreNarrow symbol_of = (i : ℕ) → 2 ^ 32 - 1 ≤ i → symbol_of i ≡ None

-- so it is if the limit is 2^32 - 1 at most
pub number_below-narrow : (limit : ℕ) → limit ≤ 2 ^ 32 - 1 → AreNarrow (number_below limit)
number_below-narrow limit small i above = grind (arith, common_steps)
