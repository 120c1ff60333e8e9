-- Interning many texts in order: all of them, or those before the first that fails.
-- Cited by `StringInterner::extend`, `from_iter` and `intern_all`, and by `run`.
use Rattle.std.specs.Prelude.{◌≡◌, ◌+◌, ◌≤◌, List, [], ◌∷◌, ◌++◌, length, map, Option, Some, None, Result, Ok, Err, MatchResult, ⊤}
use Rattle.std.specs.Borrow.{Bor}
use Rattle.std.specs.Iterator.{IsFiniteIterable, YieldsThen}
use Rattle.std.specs.List.{sum_by}
use Rattle.std.specs.Option.{option_map_or}
use Rattle.std.specs.declared.iter.IntoIterator as iterable
use Rattle.std.specs.declared.iter.Iterator as iterator
use Rattle.string_interner.specs.Text.{Text, first}
use Rattle.string_interner.specs.Numbering.{Numbering}
use Rattle.string_interner.specs.StandsFor.{KeepsSymbols}
use Rattle.string_interner.specs.SlotRule.{SlotRule, GrowsFor}
use Rattle.string_interner.specs.Interner.{InternerContents, IsNew, Interns, InternsInto}
use Rattle.string_interner.specs.declared.backend.InternError.{InternError}
use Rattle.string_interner.specs.declared.backend.InternError.TheVariants.{NoSymbol, Memory}

-- the borrowed texts
abbrev pub texts_of : List (Bor Text) → List Text
texts_of items = map (λ item. item.now) items

-- the texts that are new to the list when they come, each once, in the order of first occurrence
abbrev pub fresh : List Text → List Text → List Text
fresh old [] = []
fresh old (text ∷ texts) = option_map_or (λ _. fresh old texts) (first old text) (text ∷ fresh (old ++ text ∷ []) texts)

-- the error is `Memory`
abbrev pub IsMemory : InternError → Type 0
IsMemory NoSymbol = ⊥
IsMemory (Memory _) = ⊤

module _ {I A W : Type 0} (source : iterable.Ghosts I A W) (walks : iterator.Ghosts W A) where
  -- The iterator that an iterable becomes ends.
  abbrev pub IsFinite : I → Type 0
  IsFinite iter = IsFiniteIterable source.into_iter_gives walks.can_next walks.remaining iter

  -- The iterator that an iterable becomes yields these items, and then this one, or ends.
  abbrev pub YieldedBy : I → List A → Option A → Type 0
  YieldedBy iter items next = (walk : W) × source.into_iter_gives iter walk × (rest : W) × YieldsThen walks.next_gives walk items next rest

module _ {S : Type 0} (numbering : Numbering S) where
  -- the texts are interned in order, each with a symbol
  abbrev pub InternsAll : List Text → List Text → List Text → Type 0
  InternsAll old [] new = new ≡ old
  InternsAll old (text ∷ texts) new =
      (mid : List Text) × ((symbol : S) × Interns numbering old text (Ok symbol) mid) × InternsAll mid texts new

  -- the texts are interned in order: all of them, or those before the first that fails, which fails with this error
  abbrev pub InternsInOrder : List Text → List Text → Result (Unit {0}) InternError → List Text → Type 0
  InternsInOrder old texts (Ok _) new = InternsAll old texts new
  InternsInOrder old texts (Err error) new = (front : List Text) × (refused : Text) × (rest : List Text)
      × (texts ≡ front ++ refused ∷ rest) × InternsAll old front new × Interns numbering new refused (Err error) new

  -- The texts are interned, and each symbol stands for what it stood for. They take at most the cost of the fresh ones
  -- of the spare capacity, and if all are known nothing changes.
  pub record TakesIn (old : InternerContents) (texts : List Text) (new : InternerContents) : Type 0 where
    pub interned : InternsAll old.texts texts new.texts
    pub keeps : KeepsSymbols numbering old.texts new.texts
    pub spent : old.room ≤ new.room + sum_by numbering.cost (fresh old.texts texts)
    pub known : fresh old.texts texts ≡ [] → new ≡ old

  module _ (rule : SlotRule) where
    -- Those of the texts that are fresh fit the spare capacity of the backend and of the index.
    pub record HasRoomFor (interner : InternerContents) (texts : List Text) : Type 0 where
      pub backend : sum_by numbering.cost (fresh interner.texts texts) ≤ interner.room
      pub index : rule.holds interner.slot_count (length interner.texts + length (fresh interner.texts texts))

    -- After these texts the next one fails as interning it does: for memory only if they and it do not fit the old
    -- spare capacity.
    pub record StopsAt (old : InternerContents) (texts : List Text) (mid : InternerContents) (refused : Text) (error : InternError) (new : InternerContents) : Type 0 where
      pub refuses : InternsInto numbering rule mid refused (Err error) new
      pub beyond : IsMemory error → ¬ HasRoomFor old (texts ++ refused ∷ [])

    -- Items that are yielded are interned, and the slots grow for them: all that are yielded, or those before the first
    -- that fails.
    abbrev pub Extends : (List (Bor Text) → Option (Bor Text) → Type 0) → InternerContents → Result (Unit {0}) InternError → InternerContents → Type 0
    Extends yields old outcome new =
        (items : List (Bor Text)) × (mid : InternerContents) × TakesIn old (texts_of items) mid
        × GrowsFor rule (length mid.texts) old.slot_count mid.slot_count × MatchResult outcome
        (λ _. yields items None × (new ≡ mid))
        (λ error. (refused : Bor Text) × yields items (Some refused) × StopsAt old (texts_of items) mid refused.now error new)

    -- An interner without texts and slots is extended by the items. If one fails, no interner is made.
    abbrev pub Collects : (List (Bor Text) → Option (Bor Text) → Type 0) → Result InternerContents InternError → Type 0
    Collects yields outcome = (empty : InternerContents) × IsNew empty × MatchResult outcome
        (λ made. Extends yields empty (Ok tt) made)
        (λ error. (front : InternerContents) × Extends yields empty (Err error) front)
