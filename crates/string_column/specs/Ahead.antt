-- Texts that were interned together, before the index of each is known.
-- Cited by `Dictionary::intern_block`.
use Rattle.std.specs.Prelude.{◌≡◌, ◌≢◌, ℕ, ◌<◌, ◌^◌, List, [], ◌++◌, map, slice_get, Some, None, Result, MatchResult}
use Rattle.std.specs.Borrow.{Bor}
use Rattle.std.specs.declared.alloc.AllocError.{AllocError}
use Rattle.string_interner.specs.Text.{Text, IsDistinct}
use Rattle.string_interner.specs.Numbering.{Numbering}
use Rattle.string_interner.specs.StandsFor.{StandInOrder}
use Rattle.string_interner.specs.Extend.{fresh, texts_of}
use Rattle.string_interner.specs.InternAll.{Lists}
use Rattle.string_interner.specs.declared.backend.InternError.{InternError}
use Rattle.string_column.specs.Entries.{AreNumbered, IsRefusal}
use Rattle.string_column.specs.Column.{AreCodes}

-- the symbol is one of the list
abbrev pub IsListed : {S : Type 0} → List S → S → Type 0
IsListed symbols symbol = (i : ℕ) × (slice_get symbols i ≡ Some symbol)

module _ {S : Type 0} (numbering : Numbering S) where
  -- The entries are some in front, whose symbols are listed, and those of the texts that are new. The numbers are those of the
  -- texts' symbols.
  pub record IsAhead (front entries : List Text) (symbols : List S) (texts : List Text) (numbers : List ℕ) : Type 0 where
    pub distinct : IsDistinct entries
    pub numbered : AreNumbered numbering front symbols
    pub new : entries ≡ front ++ fresh front texts
    pub fits : numbering.place entries < 2 ^ 64
    pub pending : List S
    pub stand : StandInOrder numbering entries pending texts
    pub numbers_are : numbers ≡ map numbering.number pending

  -- The symbols of some of the texts are listed, and their codes put last: of all texts, or of those before one.
  abbrev pub TakesRows : List Text → List Text → List Text → List ℕ → Result (Unit {0}) AllocError → List S × List ℕ → Type 0
  TakesRows front entries texts codes outcome (symbols, longer) =
      (taken rest : List Text) × (added numbers : List ℕ) × (texts ≡ taken ++ rest) × (longer ≡ codes ++ added) × AreCodes (front ++ fresh front taken) added taken
      × IsAhead (front ++ fresh front taken) entries symbols rest numbers × MatchResult outcome (λ _. rest ≡ []) (λ _. rest ≢ [])

  -- Texts are interned, and the code of each is put last: all of them, or those before the first that is refused.
  abbrev pub PutsRows : List (Bor Text) → List Text × List ℕ → Result (Unit {0}) InternError → List Text × List ℕ → Type 0
  PutsRows texts (old, codes) outcome (new, longer) = (front : List (Bor Text)) × (added : List ℕ)
      × (new ≡ old ++ fresh old (texts_of front)) × (longer ≡ codes ++ added) × AreCodes new added (texts_of front)
      × MatchResult outcome (λ _. Lists texts front None)
      (λ error. (refused : Bor Text) × Lists texts front (Some refused) × IsRefusal numbering new refused.now error)
