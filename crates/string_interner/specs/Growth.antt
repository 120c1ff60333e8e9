-- How the lists of a backend get room for more.
-- Cited by what makes room in them.
use Rattle.std.specs.Prelude.{ℕ, ◌≡◌, ◌+◌, ◌≤◌, Result, OnOk, OnErr}

-- A list of this length gets room for so many items more, or an allocation fails and its capacity stays.
abbrev pub MakesRoom : {T E : Type 0} → ℕ → ℕ → Result T E → ℕ → ℕ → Type 0
MakesRoom length additional outcome old new = (old ≤ new) × OnOk outcome (length + additional ≤ new) × OnErr outcome (new ≡ old)
