-- How a backend numbers texts: by the list alone.
-- Cited by all that stands on a backend.
use Rattle.std.specs.Prelude.{ℕ, List, length, slice_get, Option}
use Rattle.string_interner.specs.Text.{Text}

pub record Numbering (S : Type 0) : Type 0 where
  -- the symbol with a number, if there is one, and the number of a symbol
  pub symbol_of : ℕ → Option S
  pub number : S → ℕ
  -- the place of the next entry after a list of texts: the number of its symbol
  pub place : List Text → ℕ
  -- what resolving a symbol with a number returns
  pub read : List Text → ℕ → Option Text
  -- the most that appending a text takes of the spare capacity
  pub cost : Text → ℕ

-- texts numbered by their index, where a text has this cost
abbrev pub by_index : {S : Type 0} → (ℕ → Option S) → (S → ℕ) → (Text → ℕ) → Numbering S
by_index symbol_of number cost = record {
  symbol_of = symbol_of;
  number = number;
  place = length;
  read = slice_get;
  cost = cost;
}
