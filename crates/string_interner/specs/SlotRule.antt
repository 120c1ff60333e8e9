-- How an index counts its slots: which counts there are, how many entries these hold, and how they grow.
-- Cited by the trait `TextIndex`, by `Table`, and by all that stands on an interner.
use Rattle.std.specs.Prelude.{◌≡◌, ℕ, ◌+◌, ◌≤◌, ◌⊎◌, Result, IsOk, OnOk, OnErr}

pub record SlotRule : Type 1 where
  -- an allowed slot count
  pub allowed : ℕ → Type 0
  -- the load factor allows so many entries in so many slots
  pub holds : ℕ → ℕ → Type 0
  -- what a slot count grows to
  pub grows_to : ℕ → ℕ → Type 0

module _ (rule : SlotRule) where
  -- an allowed slot count, within the load factor
  pub record IsLoaded (slots entries : ℕ) : Type 0 where
    pub allowed : rule.allowed slots
    pub load : rule.holds slots entries

  -- the least slot count that the load factor allows for so many entries
  pub record IsLeastSlotCount (capacity n : ℕ) : Type 0 where
    pub allowed : rule.allowed n
    pub room : rule.holds n capacity
    pub least : (m : ℕ) → rule.allowed m → rule.holds m capacity → n ≤ m

  -- Slot count after interning into a list of `len`: unchanged if the load factor allows one more entry, else unchanged
  -- or grown once.
  pub record GrowsIfFull (len old new : ℕ) : Type 0 where
    pub allowed : rule.holds old (len + 1) → new ≡ old
    pub grown : (new ≡ old) ⊎ rule.grows_to old new

  -- Slot count of a list that grew to `len`: unchanged if the load factor allows so many entries, else the least that it
  -- allows.
  pub record GrowsFor (len old new : ℕ) : Type 0 where
    pub allowed : rule.holds old len → new ≡ old
    pub least : ¬ rule.holds old len → IsLeastSlotCount len new

  -- Room is made for one entry more: nothing changes if the load factor allows one, and else the slots grow once. A refusal changes
  -- nothing.
  pub record Reserves {X E : Type 0} (slots entries : X → ℕ) (old : X) (outcome : Result (Unit {0}) E) (new : X) : Type 0 where
    pub count : entries new ≡ entries old
    pub room : OnOk outcome (rule.holds (slots new) (entries new + 1))
    pub had_room : rule.holds (slots old) (entries old + 1) → IsOk outcome × (new ≡ old)
    pub grown : ¬ rule.holds (slots old) (entries old + 1) → OnOk outcome (rule.grows_to (slots old) (slots new))
    pub err : OnErr outcome (new ≡ old)

  -- the laws of a rule
  pub record IsSlotRule : Type 0 where
    -- the load factor allows a count of entries, or does not
    pub decided : (slots entries : ℕ) → rule.holds slots entries ⊎ ¬ rule.holds slots entries
    -- where it allows so many, it allows fewer
    pub fewer : (slots entries fewer : ℕ) → rule.holds slots entries → fewer ≤ entries → rule.holds slots fewer
    -- no slots are the least for no entries
    pub none : IsLeastSlotCount 0 0
    -- full slots grow to the least that the load factor allows
    pub grown : (slots more entries : ℕ) → rule.allowed slots → ¬ rule.holds slots entries → rule.grows_to slots more → rule.holds more entries
        → IsLeastSlotCount entries more
