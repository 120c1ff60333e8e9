use Rattle.std.proofs.Common.{List, drop}
use Rattle.string_interner.specs.Text.{Text}
use Rattle.string_column.specs.Ahead.{IsAhead}
use Rattle.string_column.proofs.Lemmas.Ahead.{TakesSome}
use Rattle.string_column.proofs.dictionary.take_numbers.Given as goal

-- the codes of the texts so far are put last
abbrev pub invariant-loop-at : goal.invariant-loop-at
invariant-loop-at g l = (front entries texts : List Text) → IsAhead g.B.Store.numbering front entries l.fn.symbols texts l.numbers
    → TakesSome g.B.Store.numbering front entries texts l.fn.codes.items (drop l.at l.numbers) l.symbols l.codes.items
