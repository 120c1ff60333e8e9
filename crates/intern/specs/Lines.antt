-- How a text is split into lines, and which of them is the first bad one. `serve` and its steps cite it.
use Rattle.std.specs.Prelude.{◌≡◌, ℕ, ◌+◌, ◌<◌, ◌==◌, if◌then◌else◌, List, [], ◌∷◌, length}
use Rattle.std.specs.List.{AllWithin, HoldsAt, onto_first}
use Rattle.intern.specs.Line.{States}
use Rattle.string_interner.specs.declared.run.Command.{Command}

-- The lines of a text. A newline at the very end ends the last line and begins no further one.
abbrev pub lines_of : List ℕ → List (List ℕ)
lines_of [] = []
lines_of (b ∷ bs) = if b == 10 then [] ∷ lines_of bs else onto_first b (lines_of bs)

-- a line that states a command, and one that states none
abbrev pub IsStated : List ℕ → Type 0
IsStated line = (command : Command) × States command line

abbrev pub IsBad : List ℕ → Type 0
IsBad line = (command : Command) → ¬ (States command line)

-- the line at index i (0-based) is bad, and those before it are not
abbrev pub IsFirstBad : List (List ℕ) → ℕ → Type 0
IsFirstBad lines i = (i < length lines) × HoldsAt IsBad lines i × AllWithin IsStated lines 0 i

-- line n (1-based) is the first bad one
abbrev pub IsFirstBadLine : List (List ℕ) → ℕ → Type 0
IsFirstBadLine lines n = (i : ℕ) × (n ≡ i + 1) × IsFirstBad lines i
