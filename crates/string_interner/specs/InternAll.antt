-- Interning many texts: appending their symbols to a list, or writing the numbers of these to the front of one.
-- Cited by `StringInterner::intern_all` and `intern_slice`.
use Rattle.std.specs.Prelude.{◌≡◌, ℕ, ◌+◌, ◌-◌, ◌<◌, ◌≤◌, ◌⊎◌, List, [], ◌∷◌, ◌++◌, length, map, take, slice_index_or, Option, Some, None, IfSome, IsSome, Result, MatchResult, Vec, vec_capacity}
use Rattle.std.specs.Borrow.{Bor}
use Rattle.std.specs.declared.alloc.Global.{Global}
use Rattle.string_interner.specs.Text.{Text}
use Rattle.string_interner.specs.Numbering.{Numbering}
use Rattle.string_interner.specs.SlotRule.{SlotRule, GrowsFor}
use Rattle.string_interner.specs.Interner.{InternerContents}
use Rattle.string_interner.specs.StandsFor.{StandsFor, StandInOrder}
use Rattle.string_interner.specs.Extend.{texts_of, IsMemory, TakesIn, StopsAt}
use Rattle.string_interner.specs.declared.backend.InternError.{InternError}
use Rattle.string_interner.specs.declared.interner.look_ahead.Ahead.{Ahead}
use Rattle.string_interner.specs.declared.interner.intern_slice.Stopped.{Stopped}

-- the list begins with these items, and then has this one or ends
abbrev pub Lists : {A : Type 0} → List A → List A → Option A → Type 0
Lists all items None = all ≡ items
Lists {A} all items (Some next) = (rest : List A) × (all ≡ items ++ next ∷ rest)

-- the codes are those of the texts, in their order
abbrev pub AreCodes : (Text → ℕ) → List (Bor Text) → List ℕ → Type 0
AreCodes code texts codes = (k : ℕ) → k < length texts → (text : Bor Text) → slice_index_or codes k 0 ≡ code (slice_index_or texts k text).now

-- the number is that of no symbol, or the symbol is an entry's
abbrev pub IsGuess : {S : Type 0} → (ℕ → Option S) → (S → Option Text) → Option ℕ → Type 0
IsGuess symbol_of entry guess = IfSome guess (λ number. IfSome (symbol_of number) (λ symbol. IsSome (entry symbol)))

-- each number is a guess
abbrev pub AreGuesses : {S : Type 0} → (ℕ → Option S) → (S → Option Text) → List (Option ℕ) → Type 0
AreGuesses symbol_of entry guesses = (k : ℕ) → k < length guesses → IsGuess symbol_of entry (slice_index_or guesses k None)

-- the number is that of no symbol, or the text is the entry's
abbrev pub IsResolved : {S : Type 0} → (ℕ → Option S) → (S → Option Text) → Option ℕ → Text → Type 0
IsResolved symbol_of entry guess text = IfSome guess (λ number. IfSome (symbol_of number) (λ symbol. entry symbol ≡ Some text))

-- each text is that of the number at its index
abbrev pub AreResolved : {S : Type 0} → (ℕ → Option S) → (S → Option Text) → List (Option ℕ) → List (Bor Text) → Type 0
AreResolved symbol_of entry guesses found = (k : ℕ) → k < length guesses → (text : Bor Text)
    → IsResolved symbol_of entry (slice_index_or guesses k None) (slice_index_or found k text).now

-- the number is that of no symbol, or the symbol stands for the text
abbrev pub IsKnown : {S : Type 0} → (ℕ → Option S) → Numbering S → List Text → Text → Option ℕ → Type 0
IsKnown symbol_of numbering entries text known = IfSome known (λ number. IfSome (symbol_of number) (λ symbol. StandsFor numbering entries symbol text))

-- each number is known of the text at its index
abbrev pub AreKnown : {S : Type 0} → (ℕ → Option S) → Numbering S → List Text → List (Bor Text) → List (Option ℕ) → Type 0
AreKnown symbol_of numbering entries texts known = (k : ℕ) → k < length texts → (text : Bor Text)
    → IsKnown symbol_of numbering entries (slice_index_or texts k text).now (slice_index_or known k None)

-- Of the texts from one index to another, which were looked up together, it has the codes and what is known. The first of these
-- indexes is not past `at`.
pub record LooksAhead {S : Type 0} (code : Text → ℕ) (symbol_of : ℕ → Option S) (numbering : Numbering S) (entries : List Text) (texts : List (Bor Text)) (at : ℕ) (ahead : Ahead) : Type 0 where
  pub begun : ahead.start ≤ at
  pub within : ahead.end ≤ length texts
  pub few : ahead.end ≤ ahead.start + 32
  pub codes_are : (k : ℕ) → ahead.start ≤ k → k < ahead.end → (text : Bor Text) → slice_index_or ahead.codes (k - ahead.start) 0 ≡ code (slice_index_or texts k text).now
  pub known_are : (k : ℕ) → ahead.start ≤ k → k < ahead.end → (text : Bor Text)
      → IsKnown symbol_of numbering entries (slice_index_or texts k text).now (slice_index_or ahead.known (k - ahead.start) None)

-- it has no text of a slice
pub record LooksAtNone (ahead : Ahead) : Type 0 where
  pub start : ahead.start ≡ 0
  pub end : ahead.end ≡ 0

-- A list of symbols, which had this capacity, is full, and allocating memory for one more symbol failed. The interner is
-- unchanged.
pub record IsFull {S : Type 0} (capacity : ℕ) (symbols : List S) (mid : InternerContents) (error : InternError) (new : InternerContents) : Type 0 where
  pub memory : IsMemory error
  pub full : capacity ≤ length symbols
  pub same : new ≡ mid

module _ {S : Type 0} (numbering : Numbering S) (rule : SlotRule) where
  -- The texts are interned, and a symbol that stands for each is appended to a list, in their order.
  pub record AppendsSymbols (old : InternerContents) (symbols : List S) (texts : List Text) (new : InternerContents) (longer : List S) : Type 0 where
    pub taken : TakesIn numbering old texts new
    pub grown : GrowsFor rule (length new.texts) old.slot_count new.slot_count
    pub added : List S
    pub stand : StandInOrder numbering new.texts added texts
    pub appended : longer ≡ symbols ++ added

  -- Items that are yielded are interned into an interner, and their symbols appended to a list: all that are yielded, or
  -- those before the first that fails. That one fails as interning it does, or the list is full.
  abbrev pub InternsEach : (List (Bor Text) → Option (Bor Text) → Type 0) → InternerContents × Vec S Global
      → Result (Unit {0}) InternError → InternerContents × Vec S Global → Type 0
  InternsEach yields old outcome new =
      (items : List (Bor Text)) × (mid : InternerContents) × AppendsSymbols old.0 old.1.items (texts_of items) mid new.1.items
      × MatchResult outcome
      (λ _. yields items None × (new.0 ≡ mid))
      (λ error. (refused : Bor Text) × yields items (Some refused)
      × (StopsAt numbering rule old.0 (texts_of items) mid refused.now error new.0 ⊎ IsFull (vec_capacity old.1) new.1.items mid error new.0))

  -- The first texts, so many of them, are interned, and a list begins with the numbers of their symbols. The rest of it stays.
  pub record InternsFront (old : InternerContents) (before : List ℕ) (texts : List (Bor Text)) (done : ℕ) (new : InternerContents) (numbers : List ℕ) : Type 0 where
    pub within : done ≤ length texts
    pub symbols : List S
    pub appends : AppendsSymbols old [] (texts_of (take done texts)) new symbols
    pub numbers_are : take done numbers ≡ map numbering.number symbols
    pub count : length numbers ≡ length before
    pub rest : (k : ℕ) → done ≤ k → slice_index_or numbers k 0 ≡ slice_index_or before k 0

  -- All texts are interned, or those before the first that fails, which fails as interning it does.
  abbrev pub InternsSlice : List (Bor Text) → InternerContents × List ℕ → Result (Unit {0}) Stopped → InternerContents × List ℕ → Type 0
  InternsSlice texts (old, before) outcome (new, numbers) = MatchResult outcome
      (λ _. InternsFront old before texts (length texts) new numbers)
      (λ stopped. (mid : InternerContents) × InternsFront old before texts stopped.done mid numbers
      × (refused : Bor Text) × (rest : List (Bor Text)) × (texts ≡ take stopped.done texts ++ refused ∷ rest)
      × StopsAt numbering rule old (texts_of (take stopped.done texts)) mid refused.now stopped.error new)
