-- How a table counts its slots: which counts there are, how they grow, and how many of the slots may be filled.
-- Cited by the trait `Layout`, by `Table` and its layouts, and by handles, whose interners count slots alike.
use Rattle.std.specs.Prelude.{◌≡◌, ℕ, ◌+◌, ◌*◌, ◌^◌, ◌<◌, ◌≤◌, ◌⊎◌}
use Rattle.string_interner.specs.SlotRule.{SlotRule}

-- an allowed slot count: none, or a power of two from 8 on
abbrev pub IsSlotCount : ℕ → Type 0
IsSlotCount n = (n ≡ 0) ⊎ ((k : ℕ) × (n ≡ 8 * 2 ^ k))

-- what a slot count grows to: 8 from none, or twice as many
abbrev pub GrowsTo : ℕ → ℕ → Type 0
GrowsTo count more = ((count ≡ 0) × (more ≡ 8)) ⊎ ((0 < count) × (more ≡ 2 * count))

-- the rule of these two and a load factor
abbrev pub rule_by : (ℕ → ℕ → Type 0) → SlotRule
rule_by holds = record { allowed = IsSlotCount; holds = holds; grows_to = GrowsTo }

-- so many entries fill at most three quarters of so many slots
abbrev pub IsWithinThreeQuarters : ℕ → ℕ → Type 0
IsWithinThreeQuarters slots entries = 4 * entries ≤ 3 * slots

-- so many entries fill at most seven eighths of so many slots
abbrev pub IsWithinSevenEighths : ℕ → ℕ → Type 0
IsWithinSevenEighths slots entries = 8 * entries ≤ 7 * slots

abbrev pub three_quarters : SlotRule
three_quarters = rule_by IsWithinThreeQuarters

abbrev pub seven_eighths : SlotRule
seven_eighths = rule_by IsWithinSevenEighths

-- the laws of a load factor, which says whether so many slots hold so many entries
pub record IsLoadFactor (holds : ℕ → ℕ → Type 0) : Type 0 where
  pub decided : (slots entries : ℕ) → holds slots entries ⊎ ¬ holds slots entries
  -- slots hold fewer entries too
  pub fewer : (slots entries fewer : ℕ) → holds slots entries → fewer ≤ entries → holds slots fewer
  -- and more slots hold as many
  pub wider : (slots more entries : ℕ) → holds slots entries → slots ≤ more → holds more entries
  -- twice as many slots hold two such counts
  pub doubled : (slots some others : ℕ) → holds slots some → holds slots others → holds (2 * slots) (some + others)
  -- a slot stays empty, if there are any
  pub within : (slots entries : ℕ) → holds slots entries → (entries < slots) ⊎ ((slots ≡ 0) × (entries ≡ 0))
  -- at least half of the slots can be filled
  pub half : (slots entries : ℕ) → ¬ holds slots entries → slots < 2 * entries
