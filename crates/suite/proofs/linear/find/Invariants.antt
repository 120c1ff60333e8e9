use Rattle.string_interner.specs.Entry.{entry_text}
use Rattle.suite.proofs.Listed.{IsMissed}
use Rattle.suite.proofs.linear.find.Given as goal

abbrev pub invariant-loop-symbol : goal.invariant-loop-symbol
invariant-loop-symbol g l = IsMissed (entry_text g.B.Store.numbering (g.B.Store.texts l.backend)) l.text l.symbols l.symbol-index
