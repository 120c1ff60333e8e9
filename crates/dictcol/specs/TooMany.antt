-- When lines are too many.
-- Cited by `blocks`, `count`, `dictionary`, `distinct`, `encode`, `excerpt`, `find`, `line_blocks`, `lines`, `merge`, `plain` and
-- `shards`.
use Rattle.std.specs.Prelude.{◌≡◌, ◌-◌, ◌^◌, ◌≤◌, List, ◌∷◌, ◌++◌, length, ◌⊎◌}
use Rattle.string_interner.specs.Text.{Text}
use Rattle.string_interner.specs.Numbering.{Numbering}
use Rattle.string_column.specs.Column.{dictionary_of}
use Rattle.string_column.specs.Entries.{LacksSymbol}

-- one of the lines is refused behind those before it
abbrev pub HasRefused : (List Text → Text → Type 0) → List Text → Type 0
HasRefused Refuses lines = (front : List Text) × (line : Text) × (rest : List Text) × (lines ≡ front ++ line ∷ rest) × Refuses front line

-- the lines before one are so many that a `usize` tells no more
abbrev pub IsPastCount : List Text → Text → Type 0
IsPastCount lines line = 2 ^ 64 - 1 ≤ length lines

module _ {S : Type 0} (numbering : Numbering S) where
  -- no symbol is left for a line that is none of those before it
  abbrev pub LacksLine : List Text → Text → Type 0
  LacksLine lines line = LacksSymbol numbering (dictionary_of lines) line

  -- the same where the lines are counted
  abbrev pub LacksCount : List Text → Text → Type 0
  LacksCount lines line = IsPastCount lines line ⊎ LacksLine lines line

  -- the same where the lines are read alone, and then put behind those from before
  abbrev pub LacksBehind : List Text → List Text → Text → Type 0
  LacksBehind before lines line = LacksLine lines line ⊎ LacksLine (before ++ lines) line
