use Rattle.std.proofs.Common.{◌≡◌, take}
use Rattle.std.specs.Prelude.{vec_capacity}
use Rattle.suite.proofs.linear.copy_symbols.Given as goal

abbrev pub invariant-loop-symbol : goal.invariant-loop-symbol
invariant-loop-symbol g l = record {
  items : l.copy.items ≡ take l.symbol-index l.symbols.items;
  capacity : vec_capacity l.copy ≡ vec_capacity l.symbols;
}
