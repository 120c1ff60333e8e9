-- What the steps of the index do to its slots.
-- Cited by the functions of `dedup` that stay within the crate, by `Layout.antt`, and by the clause `vacant` of
-- `Table::reserve_one`.
use Rattle.std.specs.Prelude.{◌≡◌, ℕ, ◌<◌, ◌≤◌, ◌%◌, ◌+◌, ◌⊎◌, Bool, true, false, List, length, slice_index_or, slice_set, Contains, Option, Some, None}
use Rattle.string_interner.specs.Text.{Text}
use Rattle.string_interner.specs.Slots.{symbols, front_cluster, first_passing, probe_cluster, probed}
use Rattle.string_interner.specs.LoadFactor.{IsSlotCount}
use Rattle.string_interner.specs.Index.{Fits}
use Rattle.string_interner.specs.TextIndex.{IfVacant}
use Rattle.string_interner.specs.declared.dedup.text_index.Entry.{Entry}
use Rattle.string_interner.specs.declared.dedup.probe.Vacancy.{Vacancy}
use Rattle.string_interner.specs.declared.dedup.probe.Step.{Step}
use Rattle.string_interner.specs.declared.dedup.probe.Step.TheVariants.{Found, Free, On}

-- the slot count is allowed, and a slot is empty
pub record HasFreeSlot {S : Type 0} (slots : List (Option S)) : Type 0 where
  pub allowed : IsSlotCount (length slots)
  pub free : length (symbols slots) < length slots

-- the new slots are the old ones with the symbol in an empty one, in the probe cluster from its home on
pub record FillsSlot {S : Type 0} (old new : List (Option S)) (home : ℕ) (symbol : S) : Type 0 where
  pub at : ℕ
  pub in_range : at < length old
  pub was_empty : slice_index_or old at None ≡ None
  pub written : new ≡ slice_set old at (Some symbol)
  pub placed : Contains (front_cluster (probed new home)) symbol

-- the next slot, round the end to the first
pub record Follows (count at next : ℕ) : Type 0 where
  pub within : next < count
  pub one_on : (next ≡ at + 1) ⊎ ((next ≡ 0) × (at + 1 ≡ count))

-- A probe from `home` to `at`, round the end to the first, meets the slot `between`.
abbrev pub IsBetween : ℕ → ℕ → ℕ → Type 0
IsBetween home between at = ((home ≤ at) × (home ≤ between) × (between ≤ at)) ⊎ ((at < home) × ((home ≤ between) ⊎ (between ≤ at)))

-- the slot is filled, and its symbol fails the test
pub record Misses {S : Type 0} (test : S → Bool) (slots : List (Option S)) (at : ℕ) : Type 0 where
  pub symbol : S
  pub filled : slice_index_or slots at None ≡ Some symbol
  pub fails : test symbol ≡ false

-- the slots from `at` on and before `to` miss
pub record Passes {S : Type 0} (test : S → Bool) (slots : List (Option S)) (at to : ℕ) : Type 0 where
  pub ordered : at ≤ to
  pub within : to < length slots
  pub missed : (k : ℕ) → at ≤ k → k < to → Misses test slots k

-- Where a step of a probe leads that begins at slot `at`: to the first slot that does not miss, whose symbol passes the
-- test or which is empty; or on to a slot before which all miss.
abbrev pub StepsTo : {S : Type 0} → (S → Bool) → List (Option S) → ℕ → Step S → Type 0
StepsTo test slots at (Found symbol) = (k : ℕ) × Passes test slots at k × (slice_index_or slots k None ≡ Some symbol) × (test symbol ≡ true)
StepsTo test slots at (Free k) = Passes test slots at k × (slice_index_or slots k None ≡ None)
StepsTo test slots at (On next) = (k : ℕ) × Passes test slots at k × Misses test slots k × Follows (length slots) k next

-- the slot is empty, and in the probe cluster from the home on once it is filled
abbrev pub IsFree : {S : Type 0} → List (Option S) → ℕ → ℕ → Type 0
IsFree {S} slots home at = (at < length slots) × ((symbol : S) → FillsSlot slots (slice_set slots at (Some symbol)) home symbol)

-- The symbol of a text with this code goes there: into the slot where the probe ended, while the slot count is
-- unchanged, and else into the first empty slot from the code's home on.
pub record IsVacant {S : Type 0} (slots : List (Option S)) (code : ℕ) (vacancy : Vacancy) : Type 0 where
  pub code_is : vacancy.code ≡ code
  pub before : vacancy.slot_count ≤ length slots
  pub free : vacancy.slot_count ≡ length slots → 0 < length slots → IsFree slots (code % length slots) vacancy.at

-- the new slots have the same symbols, and fit
pub record Rebuilt {S : Type 0} (entry : S → Option Text) (code : Text → ℕ) (old new : List (Option S)) : Type 0 where
  pub fits : Fits entry code new
  pub count : length (symbols new) ≡ length (symbols old)
  pub to : (symbol : S) → Contains old (Some symbol) → Contains new (Some symbol)
  pub from : (symbol : S) → Contains new (Some symbol) → Contains old (Some symbol)

-- What a look-up of a code found is the first symbol of the code's probe cluster that passes the test.
abbrev pub FindsFirst : {S : Type 0} → (S → Bool) → List (Option S) → ℕ → Option S → Type 0
FindsFirst test slots code found = found ≡ first_passing test (probe_cluster slots code)

-- A probe for a code that found nothing tells where a symbol with that code goes.
abbrev pub NamesVacancy : {S : Type 0} → List (Option S) → ℕ → Entry S Vacancy → Type 0
NamesVacancy slots code result = IfVacant result (IsVacant slots code)
