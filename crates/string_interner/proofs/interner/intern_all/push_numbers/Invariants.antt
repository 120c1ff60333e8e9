use Rattle.std.proofs.Common.{◌≡◌, ◌+◌, ◌++◌, List, length, map, take, Some, vec_capacity}
use Rattle.string_interner.proofs.interner.intern_all.push_numbers.Given as goal

-- the symbols of the numbers so far are appended
abbrev pub invariant-loop-at : goal.invariant-loop-at
invariant-loop-at g l = record {
  pushed : (list : List g.row.S.Denot) → map g.S.Symbol.symbol_of l.numbers ≡ map Some list → l.symbols.items ≡ l.fn.symbols.items ++ take l.at list;
  count : length l.symbols.items ≡ length l.fn.symbols.items + l.at;
  capacity : vec_capacity l.symbols ≡ vec_capacity l.fn.symbols;
}
