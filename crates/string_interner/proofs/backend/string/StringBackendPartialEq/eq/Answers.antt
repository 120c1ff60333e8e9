use Rattle.std.proofs.Common.{rules}
use Rattle.string_interner.proofs.Lemmas.Texts.Equal.{cut_eq}
use Rattle.string_interner.proofs.backend.string.StringBackendPartialEq.eq.Goals as goal

pub returns-then-eq : goal.returns-then-eq
returns-then-eq g c = rw (← c.self.view_is, ← c.other.view_is, ← cut_eq _ _ _ _ c.self.invariant.parts c.other.invariant.parts) (search rules)

pub returns-else-eq : goal.returns-else-eq
returns-else-eq g c = rw (← c.self.view_is, ← c.other.view_is, ← cut_eq _ _ _ _ c.self.invariant.parts c.other.invariant.parts) (search rules)
