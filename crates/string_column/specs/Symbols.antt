-- Symbols in order, of which those in front have their indexes as numbers.
-- Cited by the model of `SymbolList`.
use Rattle.std.specs.Prelude.{ℕ, ◌+◌, ◌<◌, ◌^◌, List, [], ◌∷◌, ◌++◌, length, Option, IsSome, zero, suc}
use Rattle.std.specs.Option.{option_map_or}

-- the symbols with the numbers below this one
abbrev pub symbols_below : {S : Type 0} → (ℕ → Option S) → ℕ → List S
symbols_below symbol_of zero = []
symbols_below symbol_of (suc n) = symbols_below symbol_of n ++ option_map_or (λ symbol. symbol ∷ []) (symbol_of n) []

-- each number below that of the symbols in front has a symbol, and the count of all fits a `usize`
pub record IsSymbolList {S : Type 0} (symbol_of : ℕ → Option S) (plain : ℕ) (others : List S) : Type 0 where
  pub have_symbols : (i : ℕ) → i < plain → IsSome (symbol_of i)
  pub fits : plain + length others < 2 ^ 64
