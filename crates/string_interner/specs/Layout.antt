-- How slots lie in memory: what they hold, what is stored beside them, and how many of them may be filled.
-- Cited by the traits `Layout` and `Probe`, by `Table` and by its layouts. Below, `entry` gives the text of the entry
-- that has a symbol, if one has, and `code` the code of a text under a hasher.
use Rattle.std.specs.Prelude.{◌≡◌, ◌≢◌, ◌↔◌, ℕ, ◌<◌, List, length, slice_index_or, Option, Some, None}
use Rattle.string_interner.specs.Text.{Text}
use Rattle.string_interner.specs.LoadFactor.{IsLoadFactor, IsWithinThreeQuarters}
use Rattle.string_interner.specs.Index.{Fits, look_up}
use Rattle.string_interner.specs.Probe.{FillsSlot}

pub record SlotLayout (S L : Type 0) : Type 1 where
  pub slots : L → List (Option S)
  -- what is stored beside slot `k`
  pub stored : L → ℕ → ℕ
  -- what is stored of a code
  pub stores : ℕ → ℕ
  -- the load factor: so many slots hold so many entries
  pub holds : ℕ → ℕ → Type 0
  -- the slots fit the entries and a hasher with these codes
  pub fits : (S → Option Text) → (Text → ℕ) → L → Type 0

-- symbols alone, at most three quarters of the slots
abbrev pub plain_layout : {S : Type 0} → SlotLayout S (List (Option S))
plain_layout = record { slots = λ x. x; stored = λ _ _. 0; stores = λ _. 0; holds = IsWithinThreeQuarters; fits = λ entry code x. Fits entry code x }

-- beside each symbol is what is stored of its text's code
abbrev pub IsCoded : {S : Type 0} → (ℕ → ℕ) → (S → Option Text) → (Text → ℕ) → List (Option S) → (ℕ → ℕ) → Type 0
IsCoded {S} stores entry code slots stored = (k : ℕ) (symbol : S) (text : Text) → k < length slots → slice_index_or slots k None ≡ Some symbol
    → entry symbol ≡ Some text → stored k ≡ stores (code text)

module _ {S L : Type 0} (layout : SlotLayout S L) where
  -- the slots fit, and map the text of each entry to its symbol
  pub record IsTable (entry : S → Option Text) (code : Text → ℕ) (x : L) : Type 0 where
    pub fits : layout.fits entry code x
    pub whole : (symbol : S) (text : Text) → entry symbol ≡ Some text → look_up entry (layout.slots x) text ≡ Some symbol

  -- The symbol is put into an empty slot, in the probe cluster from its home on, and beside it what is stored of the code.
  pub record Fills (old new : L) (home : ℕ) (symbol : S) (code : ℕ) : Type 0 where
    pub slot : FillsSlot (layout.slots old) (layout.slots new) home symbol
    pub stored : layout.stored new slot.at ≡ layout.stores code
    pub others : (k : ℕ) → k ≢ slot.at → layout.stored new k ≡ layout.stored old k

  -- A filled slot stays as it is.
  abbrev pub KeepsFilled : L → L → Type 0
  KeepsFilled old new = (k : ℕ) (symbol : S) → slice_index_or (layout.slots old) k None ≡ Some symbol
      → (slice_index_or (layout.slots new) k None ≡ Some symbol) × (layout.stored new k ≡ layout.stored old k)

  -- The slots fit the entries and a hasher that gives this text this code.
  abbrev pub FitsCode : (S → Option Text) → L → ℕ → Text → Type 0
  FitsCode entry x code text = (of : Text → ℕ) × (layout.fits entry of x × (code ≡ of text))

  -- the laws of a layout
  pub record IsLayout : Type 0 where
    -- the slots fit if their symbols do, and what is stored beside them
    pub fits_is : (entry : S → Option Text) (code : Text → ℕ) (x : L) → layout.fits entry code x
        ↔ (Fits entry code (layout.slots x) × IsCoded layout.stores entry code (layout.slots x) (layout.stored x))
    pub load : IsLoadFactor layout.holds
