-- The dictionary of a column: distinct texts with their symbols and indexes, and interning a text.
-- Cited by the model and the contracts of `Dictionary`.
use Rattle.std.specs.Prelude.{◌≡◌, ℕ, ◌<◌, List, [], ◌∷◌, ◌++◌, length, slice_get, slice_index_or, Some, None, Result, Ok, Err, ⊤}
use Rattle.string_interner.specs.Text.{Text, first}
use Rattle.string_interner.specs.Numbering.{Numbering}
use Rattle.string_interner.specs.Interner.{entry_symbol}
use Rattle.string_interner.specs.Extend.{fresh}
use Rattle.string_interner.specs.declared.backend.InternError.{InternError}
use Rattle.string_interner.specs.declared.backend.InternError.TheVariants.{NoSymbol, Memory}

-- each symbol has a greater number than those before it
abbrev pub NumbersAscend : {S : Type 0} → (S → ℕ) → List S → Type 0
NumbersAscend {S} number symbols = (i j : ℕ) (d : S) → i < j → j < length symbols → number (slice_index_or symbols i d) < number (slice_index_or symbols j d)

module _ {S : Type 0} (numbering : Numbering S) where
  -- the symbols are those of the entries, in their order
  pub record AreNumbered (texts : List Text) (symbols : List S) : Type 0 where
    pub count : length symbols ≡ length texts
    pub symbol_at : (i : ℕ) → i < length texts → slice_get symbols i ≡ entry_symbol numbering texts i

  -- no symbol is left for a text that is no entry
  pub record LacksSymbol (texts : List Text) (text : Text) : Type 0 where
    pub is_new : first texts text ≡ None
    pub none_left : numbering.symbol_of (numbering.place texts) ≡ None

  -- how interning a text may fail
  abbrev pub IsRefusal : List Text → Text → InternError → Type 0
  IsRefusal texts text NoSymbol = LacksSymbol texts text
  IsRefusal texts text (Memory _) = ⊤

  -- `Ok` has the index of the text, which is put last if it is new. On `Err` nothing changes.
  abbrev pub FindsIndex : List Text → Text → Result ℕ InternError → List Text → Type 0
  FindsIndex old text (Ok index) new = (slice_get new index ≡ Some text) × (new ≡ old ++ fresh old (text ∷ []))
  FindsIndex old text (Err error) new = IsRefusal old text error × (new ≡ old)
