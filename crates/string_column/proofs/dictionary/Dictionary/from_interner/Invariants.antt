use Rattle.std.proofs.Common.{◌≡◌, List, ◌++◌}
use Rattle.string_interner.specs.Iter.{entries}
use Rattle.string_interner.specs.Text.{Text}
use Rattle.string_column.specs.Entries.{AreNumbered}
use Rattle.string_column.proofs.dictionary.Dictionary.from_interner.Given as goal

-- the symbols are those of the texts in front of those ahead
abbrev pub invariant-loop-symbol : goal.invariant-loop-symbol
invariant-loop-symbol g l = (front : List Text) × AreNumbered g.B.Store.numbering front l.symbols × (front ++ l.symbol-iterator.ahead ≡ l.fn.interner.texts)
    × (entries g.B.Store.numbering l.symbol-iterator.behind l.symbol-iterator.ahead ≡ entries g.B.Store.numbering front l.symbol-iterator.ahead)
