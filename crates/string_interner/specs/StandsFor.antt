-- Which text a symbol stands for.
-- Cited by the calls of `StringInterner` and `Scopes` that take or return symbols, and by callers.
use Rattle.std.specs.Prelude.{◌≡◌, ℕ, ◌<◌, ◌↔◌, Bool, IsTrue, List, [], ◌∷◌, take, slice_get, Option, Some, MatchOption}
use Rattle.string_interner.specs.Text.{Text}
use Rattle.string_interner.specs.Numbering.{Numbering}

module _ {S : Type 0} (numbering : Numbering S) where
  -- the symbol is that of an entry, which is the text
  pub record StandsFor (texts : List Text) (symbol : S) (text : Text) : Type 0 where
    pub index : ℕ
    pub entry : slice_get texts index ≡ Some text
    pub symbol_is : numbering.symbol_of (numbering.place (take index texts)) ≡ Some symbol

  -- what stood for a text in the old list stands for it in the new one
  abbrev pub KeepsSymbols : List Text → List Text → Type 0
  KeepsSymbols old new = (symbol : S) (text : Text) → StandsFor old symbol text → StandsFor new symbol text

  -- the symbols stand for these texts, one for each, in their order
  pub data StandInOrder (texts : List Text) : List S → List Text → Type 0 where
    none : StandInOrder texts [] []
    next : {symbol : S} {text : Text} {symbols : List S} {rest : List Text} → StandsFor texts symbol text → StandInOrder texts symbols rest
        → StandInOrder texts (symbol ∷ symbols) (text ∷ rest)

  -- `Some` has the symbol that stands for the text, and `None` says that none does
  abbrev pub FindsSymbol : List Text → Text → Option S → Type 0
  FindsSymbol texts text found = MatchOption found ((symbol : S) → ¬ StandsFor texts symbol text) (λ symbol. StandsFor texts symbol text)

  -- symbols that stand for texts of the list are equal exactly where the texts are
  abbrev pub TellsApart : (S → S → Bool) → List Text → Type 0
  TellsApart eq texts = (s t : S) (a b : Text) → StandsFor texts s a → StandsFor texts t b → IsTrue (eq s t) ↔ (a ≡ b)

  -- a later entry has a greater number
  abbrev pub NumbersInOrder : List Text → Type 0
  NumbersInOrder texts = (s t : S) (a b : Text) (before : StandsFor texts s a) (after : StandsFor texts t b) → before.index < after.index → numbering.number s < numbering.number t
