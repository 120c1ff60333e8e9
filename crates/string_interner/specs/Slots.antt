-- A list of slots, each empty or with a symbol, as probing reads it, and the count of looks.
-- Cited by `Looks`, by `Table` and by what it is made of.
use Rattle.std.specs.Prelude.{◌≡◌, ℕ, ◌+◌, ◌-◌, ◌^◌, ◌⊎◌, ◌%◌, ◌<◌, ◌≤◌, List, [], ◌∷◌, ◌++◌, take, drop, length, slice_index_or, Option, Some, None, IsSome, IsNone, Bool, if◌then◌else◌}
use Rattle.std.specs.Option.{option_or}
use Rattle.string_interner.specs.Symbol.{AreNarrow}

-- what contracts see of `Looks`: the borrowed backend, and how many looks were taken
pub record LooksContents (B : Type 0) : Type 0 where
  pub backend : B
  pub count : ℕ

-- The probe cluster from a home on has `f` slots: the greatest count, at most all, such that the slots home, home + 1,
-- .., wrapping around at the end, are filled.
pub record IsProbeCluster {S : Type 0} (slots : List (Option S)) (home f : ℕ) : Type 0 where
  pub within : f ≤ length slots
  pub filled : (i : ℕ) → i < f → IsSome (slice_index_or slots ((home + i) % length slots) None)
  pub greatest : f < length slots → IsNone (slice_index_or slots ((home + f) % length slots) None)

-- the symbols in the slots, in order
abbrev pub symbols : {S : Type 0} → List (Option S) → List S
symbols [] = []
symbols (None ∷ rest) = symbols rest
symbols (Some symbol ∷ rest) = symbol ∷ symbols rest

-- the same, up to the first empty slot: the probe cluster at the front
abbrev pub front_cluster : {S : Type 0} → List (Option S) → List S
front_cluster [] = []
front_cluster (None ∷ rest) = []
front_cluster (Some symbol ∷ rest) = symbol ∷ front_cluster rest

-- the slots in probe order from a home on, wrapping around at the end
abbrev pub probed : {S : Type 0} → List (Option S) → ℕ → List (Option S)
probed slots home = drop home slots ++ take home slots

-- the symbols of the probe cluster from the home of a code on
abbrev pub probe_cluster : {S : Type 0} → List (Option S) → ℕ → List S
probe_cluster slots code = front_cluster (probed slots (code % length slots))

-- the first symbol that passes the test
abbrev pub first_passing : {S : Type 0} → (S → Bool) → List S → Option S
first_passing test [] = None
first_passing test (symbol ∷ rest) = if test symbol then Some symbol else first_passing test rest

-- the slots that are stored as numbers, each with the symbol of its number if that has one, and else with what the other
-- list has; without numbers they are the other list
abbrev pub slots_stored : {S : Type 0} → (ℕ → Option S) → List ℕ → List (Option S) → List (Option S)
slots_stored symbol_of [] others = others
slots_stored symbol_of (number ∷ numbers) [] = symbol_of number ∷ slots_stored symbol_of numbers []
slots_stored symbol_of (number ∷ numbers) (other ∷ others) = option_or (symbol_of number) other ∷ slots_stored symbol_of numbers others

-- how slots are stored, of symbols of a type
pub record AreStored {S : Type 0} (symbol_of : ℕ → Option S) (numbers : List ℕ) (others : List (Option S)) : Type 0 where
  -- without numbers, unless 2^32 - 1 has no symbol
  pub absent : IsSome (symbol_of (2 ^ 32 - 1)) → numbers ≡ []
  -- with as many other slots as numbers, or with none where no symbol could be there
  pub counted : IsNone (symbol_of (2 ^ 32 - 1)) → (length others ≡ length numbers) ⊎ ((others ≡ []) × AreNarrow symbol_of)
  pub unused : AreNarrow symbol_of → (k : ℕ) → IsNone (slice_index_or others k None)
