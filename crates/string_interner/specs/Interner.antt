-- What holds of every interner: a list of distinct texts, each with its symbol, and interning a text.
-- Cited by `StringInterner` and by all that stands on it.
use Rattle.std.specs.Prelude.{◌≡◌, ℕ, ◌+◌, ◌^◌, ◌<◌, ◌≤◌, ◌↔◌, Bool, List, [], length, take, Option, Some, IsSome, MatchOption, IfOk, IsOkAnd, IsErrOf, OnErr, Result, option_and_then}
use Rattle.string_interner.specs.Text.{Text, IsDistinct, first}
use Rattle.string_interner.specs.Numbering.{Numbering}
use Rattle.string_interner.specs.Backend.{Bucket, IsValidList, Appends, UsesRoom}
use Rattle.string_interner.specs.Entry.{entry_text}
use Rattle.string_interner.specs.StandsFor.{StandsFor, KeepsSymbols, FindsSymbol, TellsApart, NumbersInOrder}
use Rattle.string_interner.specs.SlotRule.{SlotRule, IsLoaded, IsLeastSlotCount, GrowsIfFull}
use Rattle.string_interner.specs.declared.backend.InternError.{InternError}
use Rattle.string_interner.specs.declared.backend.InternError.TheVariants.{NoSymbol}

-- what contracts see of an interner
pub record InternerContents : Type 0 where
  pub texts : List Text
  pub buckets : List Bucket
  -- the backend's spare capacity, counted in costs of texts
  pub room : ℕ
  -- the slot count of the index
  pub slot_count : ℕ

-- what contracts see of an interner, by the parts of its backend and the slot count of its index
abbrev pub contents_of : List Text → List Bucket → ℕ → ℕ → InternerContents
contents_of texts buckets room slot_count = record { texts = texts; buckets = buckets; room = room; slot_count = slot_count }

-- the same of a backend and an index, by what contracts see of each
abbrev pub contents_in : {B I : Type 0} → (B → List Text) → (B → List Bucket) → (B → ℕ) → (I → ℕ) → B → I → InternerContents
contents_in texts buckets room slots backend index = contents_of (texts backend) (buckets backend) (room backend) (slots index)

-- a new interner
pub record IsNew (interner : InternerContents) : Type 0 where
  pub texts : interner.texts ≡ []
  pub room : interner.room ≡ 0
  pub slots : interner.slot_count ≡ 0

-- a new interner made with a capacity, for which its backend grants this spare capacity
pub record IsMadeFor (rule : SlotRule) (capacity grant : ℕ) (interner : InternerContents) : Type 0 where
  pub texts : interner.texts ≡ []
  pub room : grant ≤ interner.room
  pub slots : IsLeastSlotCount rule capacity interner.slot_count
  -- no size beyond a `usize` was asked for
  pub grant_fits : grant < 2 ^ 64
  pub slots_fit : interner.slot_count < 2 ^ 64

-- the interner's index has the least slot count for its texts
abbrev pub HasLeastSlots : SlotRule → InternerContents → Type 0
HasLeastSlots rule interner = IsLeastSlotCount rule (length interner.texts) interner.slot_count

-- buckets and slot count are unchanged
abbrev pub KeepsBucketsAndSlots : InternerContents → InternerContents → Type 0
KeepsBucketsAndSlots old new = (new.buckets ≡ old.buckets) × (new.slot_count ≡ old.slot_count)

-- no memory is released: buckets and slot count are unchanged, and there is no less spare capacity
pub record KeepsMemory (old new : InternerContents) : Type 0 where
  pub buckets : new.buckets ≡ old.buckets
  pub room : old.room ≤ new.room
  pub slots : new.slot_count ≡ old.slot_count

-- the same texts, and so the same symbols; `copies` says which buckets a copy has
pub record IsCopyOf (copies : List Text → List Bucket → List Bucket → Type 0) (old copy : InternerContents) : Type 0 where
  pub texts : copy.texts ≡ old.texts
  pub buckets : copies old.texts old.buckets copy.buckets

module _ {S : Type 0} (numbering : Numbering S) where
  -- the symbol of the entry `i`
  abbrev pub entry_symbol : List Text → ℕ → Option S
  entry_symbol texts i = numbering.symbol_of (numbering.place (take i texts))

  -- the symbol of a known text
  abbrev pub known_symbol : List Text → Text → Option S
  known_symbol texts text = option_and_then (entry_symbol texts) (first texts text)

  -- the list of an interner: the texts are distinct, and a valid list of its backend, so each has a symbol
  pub record IsInternerList (texts : List Text) : Type 0 where
    pub distinct : IsDistinct texts
    pub valid : IsValidList numbering.symbol_of numbering.place texts

  -- what holds of every interner whose symbols are compared by `eq`, and whose index counts its slots by this rule
  pub record HoldsOfEvery (eq : S → S → Bool) (rule : SlotRule) (interner : InternerContents) : Type 0 where
    pub texts : IsInternerList interner.texts
    -- symbols that stand for texts are equal exactly if the texts are
    pub equal : TellsApart numbering eq interner.texts
    -- a later entry has a greater number
    pub order : NumbersInOrder numbering interner.texts
    -- the slots are within the load factor
    pub loaded : IsLoaded rule interner.slot_count (length interner.texts)

  -- Looking up a text finds this.
  pub record Finds (texts : List Text) (text : Text) (found : Option S) : Type 0 where
    pub symbol : found ≡ known_symbol texts text
    pub known : IsSome found ↔ IsSome (first texts text)
    pub stands : FindsSymbol numbering texts text found

  -- What a symbol resolves to: what the backend reads at its number, which is the text that the symbol stands for, if any.
  pub record Resolves (texts : List Text) (symbol : S) (found : Option Text) : Type 0 where
    pub value : found ≡ numbering.read texts (numbering.number symbol)
    pub stands : (text : Text) → StandsFor numbering texts symbol text → found ≡ Some text

  -- Interning a text in the old list has this outcome and gives this new list: for a known text `Ok` with the symbol of
  -- its first entry, and nothing changes; a new one is appended.
  abbrev pub Interns : List Text → Text → Result S InternError → List Text → Type 0
  Interns old text outcome new = MatchOption (first old text)
      (Appends numbering.symbol_of numbering.place old text outcome new)
      (λ i. IsOkAnd outcome (λ symbol. entry_symbol old i ≡ Some symbol) × (new ≡ old))

  -- The same of an interner whose index counts its slots by this rule.
  pub record InternsInto (rule : SlotRule) (old : InternerContents) (text : Text) (outcome : Result S InternError) (new : InternerContents) : Type 0 where
    pub interns : Interns old.texts text outcome new.texts
    pub texts : IsInternerList new.texts
    -- the symbol stands for the text, and each symbol for what it stood for, on `Err` too
    pub stands : IfOk outcome (λ symbol. StandsFor numbering new.texts symbol text)
    pub keeps : KeepsSymbols numbering old.texts new.texts
    -- a known text changes nothing, and neither does `NoSymbol`
    pub known : IsSome (first old.texts text) → new ≡ old
    pub no_symbol : IsErrOf outcome NoSymbol → new ≡ old
    -- on `Err` the buckets are unchanged
    pub buckets : OnErr outcome (new.buckets ≡ old.buckets)
    -- within the spare capacity of the backend and of the index it does not fail for memory
    pub room : UsesRoom (IsSome (numbering.symbol_of (numbering.place old.texts)) × rule.holds old.slot_count (length old.texts + 1)) (numbering.cost text) old.room new.room outcome
    pub slots : GrowsIfFull rule (length old.texts) old.slot_count new.slot_count

  -- The invariant of an interner: the texts are an interner's, and the index has exactly these, with their symbols.
  pub record IsSoundInterner (indexes : (S → Option Text) → Type 0) (entries : ℕ) (list : List Text) : Type 0 where
    pub texts : IsInternerList list
    pub whole : indexes (entry_text numbering list)
    pub count : entries ≡ length list

  -- The same of an index: of what it holds under these codes, and of how many entries.
  abbrev pub IsSoundIndex : {X : Type 0} → (X → (S → Option Text) → (Text → ℕ) → Type 0) → (Text → ℕ) → (X → ℕ) → X → List Text → Type 0
  IsSoundIndex indexes code entries index list = IsSoundInterner (λ entry. indexes index entry code) (entries index) list
