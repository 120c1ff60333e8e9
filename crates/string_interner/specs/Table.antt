-- What holds of every table over a layout of slots, and what its calls do to it.
-- Cited by `Table` and by all that stands on it. Below, `entry` gives the text of the entry that has a symbol, if one
-- has, and `code` the code of a text under a hasher.
use Rattle.std.specs.Prelude.{◌≡◌, ℕ, ◌+◌, ◌*◌, ◌≤◌, ◌%◌, max, length, Option}
use Rattle.string_interner.specs.Text.{Text}
use Rattle.string_interner.specs.LoadFactor.{IsSlotCount}
use Rattle.string_interner.specs.Slots.{LooksContents, IsProbeCluster, symbols}
use Rattle.string_interner.specs.Index.{AddsPair, IsAbsent, RemovesPair, look_up, text_of}
use Rattle.string_interner.specs.Layout.{IsTable, SlotLayout}

-- what contracts see of a table
pub record TableContents (L : Type 0) : Type 0 where
  pub slots : L
  -- how many symbols growth moved, since it was made
  pub put_back : ℕ
  -- the greatest number of entries, since it was made
  pub greatest : ℕ

module _ {S L : Type 0} (layout : SlotLayout S L) where
  abbrev pub slot_count : TableContents L → ℕ
  slot_count table = length (layout.slots table.slots)

  -- the number of entries
  abbrev pub entry_count : TableContents L → ℕ
  entry_count table = length (symbols (layout.slots table.slots))

  -- the load factor allows one more entry
  abbrev pub HasRoom : TableContents L → Type 0
  HasRoom table = layout.holds (slot_count table) (entry_count table + 1)

  -- the slots fit all entries and hashers
  abbrev pub FitsAll : L → Type 0
  FitsAll slots = (entry : S → Option Text) (code : Text → ℕ) → layout.fits entry code slots

  -- what holds of every table
  pub record IsBounded (table : TableContents L) : Type 0 where
    pub allowed : IsSlotCount (slot_count table)
    pub load : layout.holds (slot_count table) (entry_count table)
    pub put_back : table.put_back ≤ 2 * table.greatest
    pub greatest : entry_count table ≤ table.greatest

  -- the invariant of a table, with the count of entries that it stores
  pub record IsSoundTable (table : TableContents L) (len : ℕ) : Type 0 where
    pub counted : len ≡ entry_count table
    pub bounded : IsBounded table
    -- so that the next growth keeps `put_back` within its bound
    pub put_back : layout.holds (slot_count table) table.put_back

  -- A look-up of a text with this code takes at most one look more than there are slots in the probe cluster from its
  -- home on, and so at most one more than there are entries, and none without slots. The backend is unchanged.
  pub record CountsLooks {B : Type 0} (table : TableContents L) (code : ℕ) (old new : LooksContents B) : Type 0 where
    pub backend : new.backend ≡ old.backend
    pub counts : old.count ≤ new.count
    pub cluster : (f : ℕ) → IsProbeCluster (layout.slots table.slots) (code % slot_count table) f → new.count ≤ old.count + f + 1
    pub at_most : new.count ≤ old.count + entry_count table + 1
    pub no_slots : slot_count table ≡ 0 → new.count ≡ old.count

  -- A text with this code was looked for, by so few looks, and this is the symbol of an entry that has it, if one has.
  pub record Seeks {B : Type 0} (entry : S → Option Text) (table : TableContents L) (code : ℕ) (text : Text) (old new : LooksContents B) (found : Option S) : Type 0 where
    pub found_is : found ≡ look_up entry (layout.slots table.slots) text
    pub looks : CountsLooks table code old new

  -- growth moved all symbols
  pub record Moves (old new : TableContents L) : Type 0 where
    pub put_back : new.put_back ≡ old.put_back + entry_count old
    pub greatest : new.greatest ≡ old.greatest

  module _ (entry : S → Option Text) (code : Text → ℕ) where
    -- the symbol is added, and nothing else changes but the counts of entries
    pub record Inserts (old new : TableContents L) (symbol : S) : Type 0 where
      pub fits : layout.fits entry code new.slots
      pub pair : AddsPair entry (layout.slots old.slots) (layout.slots new.slots) symbol
      pub count : entry_count new ≡ entry_count old + 1
      pub slots : slot_count new ≡ slot_count old
      pub put_back : new.put_back ≡ old.put_back
      pub greatest : new.greatest ≡ max old.greatest (entry_count new)

    -- the symbol is removed, and nothing else changes but the count of entries
    pub record Removes (old new : TableContents L) (symbol : S) : Type 0 where
      pub fits : layout.fits entry code new.slots
      pub pair : RemovesPair entry (layout.slots old.slots) (layout.slots new.slots) symbol
      pub count : entry_count old ≡ entry_count new + 1
      pub slots : slot_count new ≡ slot_count old
      pub put_back : new.put_back ≡ old.put_back
      pub greatest : new.greatest ≡ old.greatest

    -- The table is filled anew: the slots map each entry's text to its symbol and hold nothing else, `count` entries.
    -- The slot count is unchanged.
    pub record Refills (old new : TableContents L) (count : ℕ) : Type 0 where
      pub whole : IsTable layout entry code new.slots
      pub count_is : entry_count new ≡ count
      pub slots : slot_count new ≡ slot_count old
      pub put_back : new.put_back ≡ old.put_back
      pub greatest : new.greatest ≡ max old.greatest count

  -- The symbol of a text with this code is added, whatever entries and hasher the slots fit.
  abbrev pub InsertsByCode : ℕ → TableContents L → TableContents L → S → Type 0
  InsertsByCode known_code old new symbol = (entry : S → Option Text) (code : Text → ℕ) → layout.fits entry code old.slots
      → IsAbsent entry (layout.slots old.slots) symbol → known_code ≡ code (text_of entry symbol) → Inserts entry code old new symbol
