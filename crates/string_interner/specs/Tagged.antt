-- Slots with a tag and a stored code beside each symbol, as their layout and as two lists.
-- Cited by `TaggedSlots`. Below, `entry` gives the text of the entry that has a symbol, if one has, and `code` the code
-- of a text under a hasher.
use Rattle.std.specs.Prelude.{◌≡◌, ◌≢◌, ℕ, zero, suc, ◌+◌, ◌/◌, ◌%◌, ◌^◌, ◌<◌, ◌≤◌, Bool, IsTrue, List, [], ◌∷◌, length, map, zip, replicate, slice_index_or, Option, Some, None}
use Rattle.string_interner.specs.Text.{Text}
use Rattle.string_interner.specs.LoadFactor.{IsWithinSevenEighths}
use Rattle.string_interner.specs.Index.{Fits}
use Rattle.string_interner.specs.Layout.{IsCoded, SlotLayout}
use Rattle.string_interner.specs.declared.dedup.tagged.CodedSymbol.{CodedSymbol}

-- what contracts see of the slots: each is empty, or has a symbol and its stored code
abbrev pub TaggedContents : Type 0 → Type 0
TaggedContents S = List (Option (CodedSymbol S))

-- the stored code: the low 32 bits of a code
abbrev pub stored_code : ℕ → ℕ
stored_code code = code % 2 ^ 32

-- the tag of a stored code: 128 and its top seven bits, and so never 0
abbrev pub tag_of : ℕ → ℕ
tag_of stored = 128 + stored / 2 ^ 25

-- the symbol in a slot, if any
abbrev pub symbol_in : {S : Type 0} → Option (CodedSymbol S) → Option S
symbol_in None = None
symbol_in (Some item) = Some item.symbol

-- the stored code in a slot, and 0 in an empty one
abbrev pub code_in : {S : Type 0} → Option (CodedSymbol S) → ℕ
code_in None = 0
code_in (Some item) = item.code

-- a symbol and its stored code
abbrev pub pair_of : {S : Type 0} → CodedSymbol S → S × ℕ
pair_of item = (item.symbol, item.code)

abbrev pub symbols_in : {S : Type 0} → TaggedContents S → List (Option S)
symbols_in tagged = map symbol_in tagged

abbrev pub code_at : {S : Type 0} → TaggedContents S → ℕ → ℕ
code_at tagged k = code_in (slice_index_or tagged k None)

module _ {S : Type 0} (entry : S → Option Text) (code : Text → ℕ) where
  -- the slots fit, and beside each symbol is the stored code of its text
  pub record FitsTagged (tagged : TaggedContents S) : Type 0 where
    pub slots : Fits entry code (symbols_in tagged)
    pub coded : IsCoded stored_code entry code (symbols_in tagged) (code_at tagged)

-- symbols with their codes, at most seven eighths of the slots
abbrev pub tagged_layout : {S : Type 0} → SlotLayout S (TaggedContents S)
tagged_layout = record {
  slots = symbols_in;
  stored = code_at;
  stores = stored_code;
  holds = IsWithinSevenEighths;
  fits = λ entry code x. FitsTagged entry code x;
}

-- slot `k` is filled, and has another tag
pub record HasAnotherTag {S : Type 0} (tagged : TaggedContents S) (tag k : ℕ) : Type 0 where
  pub item : CodedSymbol S
  pub filled : slice_index_or tagged k None ≡ Some item
  pub other : tag_of item.code ≢ tag

-- each slot whose symbol passes the test has the tag
abbrev pub TagTells : {S : Type 0} → (S → Bool) → TaggedContents S → ℕ → Type 0
TagTells {S} test tagged tag = (k : ℕ) (item : CodedSymbol S) → k < length tagged → slice_index_or tagged k None ≡ Some item → IsTrue (test item.symbol)
    → tag_of item.code ≡ tag

-- what is in a slot with this tag, beside which this item is stored
abbrev pub slot_in : {S : Type 0} → ℕ × CodedSymbol S → Option (CodedSymbol S)
slot_in (zero, item) = None
slot_in (suc tag, item) = Some item

-- so many slots, by their tags and items: all are empty while there are no items
abbrev pub slots_of : {S : Type 0} → ℕ → List ℕ → List (CodedSymbol S) → TaggedContents S
slots_of count tags [] = replicate count None
slots_of count tags (item ∷ items) = map slot_in (zip tags (item ∷ items))

-- How the two lists belong together, if the list of items has this capacity.
pub record IsTagged {S : Type 0} (count : ℕ) (tags : List ℕ) (items : List (CodedSymbol S)) (capacity : ℕ) : Type 0 where
  pub counted : length (slots_of count tags items) ≡ count
  -- sixteen tags more than slots, so that sixteen can be read from each slot on
  pub ahead : 0 < count → length tags ≡ count + 16
  -- the first of these is not set, so that no probe passes it
  pub end : slice_index_or tags count 0 ≡ 0
  pub tag : (k : ℕ) (item : CodedSymbol S) → slice_index_or (slots_of count tags items) k None ≡ Some item → slice_index_or tags k 0 ≡ tag_of item.code
  -- as many items as slots, once a symbol was put; before that no tag is set
  pub all : 0 < length items → length items ≡ count
  pub unset : length items ≡ 0 → tags ≡ replicate (length tags) 0
  pub room : count ≤ capacity
