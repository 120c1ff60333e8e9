-- Iterating over the entries of a list, each with its symbol.
-- Cited by `Iter` and by what iterates.
use Rattle.std.specs.Prelude.{List, [], ◌∷◌, ◌++◌, Option}
use Rattle.string_interner.specs.Text.{Text}
use Rattle.string_interner.specs.Numbering.{Numbering}

-- the state of an iterator: the texts already yielded, and those ahead
pub record IterState : Type 0 where
  pub behind : List Text
  pub ahead : List Text

-- an iterator over these texts that has yielded none
abbrev pub iter_over : List Text → IterState
iter_over texts = record { behind = []; ahead = texts }

-- The entries of the texts ahead: the symbol of each, which depends on the texts before it, and the text.
abbrev pub entries : {S : Type 0} → Numbering S → List Text → List Text → List (Option S × Text)
entries numbering behind [] = []
entries numbering behind (text ∷ ahead) =
    (numbering.symbol_of (numbering.place behind), text) ∷ entries numbering (behind ++ text ∷ []) ahead
