use Rattle.std.proofs.Common.{◌≡◌}
use Rattle.std.specs.Prelude.{vec_capacity}
use Rattle.suite.proofs.Listed.{IsPut}
use Rattle.suite.proofs.linear.put_all.Given as goal

-- the symbols so far are in the list
abbrev pub invariant-loop-symbol : goal.invariant-loop-symbol
invariant-loop-symbol g l = record {
  put : IsPut g.B.Store.numbering (g.B.Store.texts l.backend) l.symbol-iterator.behind l.symbol-iterator.ahead l.symbols.items;
  capacity : vec_capacity l.symbols ≡ vec_capacity l.fn.symbols;
}
