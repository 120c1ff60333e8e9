use Rattle.std.proofs.Common.{◌≡◌}
use Rattle.string_interner.specs.Text.{texts_eq}
use Rattle.string_interner.proofs.interner.StringInternerPartialEq.eq.Given as goal

-- what is to come is equal exactly where all is
abbrev pub invariant-loop-text : goal.invariant-loop-text
invariant-loop-text g l = texts_eq l.fn.self.texts l.fn.other.texts ≡ texts_eq l.text-iterator.ahead l.theirs.ahead
