use Rattle.std.proofs.Common.{refl}
use Rattle.string_interner.proofs.Lemmas.Scopes.Layers.{joined_layers-of_list, top-gains, step-declares}
use Rattle.string_interner.proofs.scope.Scopes.declare.Goals as goal

pub returns-clause-interns : goal.returns-clause-interns
returns-clause-interns g c = rw (← c.self.view_is, joined_layers-of_list, joined_layers-of_list) c.get_or_intern.ensures

pub returns-clause-new : goal.returns-clause-new
returns-clause-new g c = rw (← c.self.view_is, joined_layers-of_list) (top-gains g.B.Store.numbering _ _ c.self.invariant _ _ _ c.get_or_intern.ensures.interns)

pub returns-clause-known : goal.returns-clause-known
returns-clause-known g c = rw (← c.self.view_is, joined_layers-of_list) (λ h. rw (c.get_or_intern.ensures.known h) refl)

pub returns-clause-step : goal.returns-clause-step
returns-clause-step g c = rw (← c.self.view_is) (step-declares g.B.Store.numbering _ _ c.self.invariant _ _ _ c.get_or_intern.ensures.interns)
