use Rattle.std.proofs.Common.{rules}
use Rattle.string_interner.proofs.Lemmas.Scopes.Layers.{step-stays, step-enters, opened}
use Rattle.string_interner.proofs.scope.Scopes.enter.Goals as goal

pub returns-in_err-push-clause-step : goal.returns-in_err-push-clause-step
returns-in_err-push-clause-step g c = step-stays _ _ (search rules)

pub returns-clause-step : goal.returns-clause-step
returns-clause-step g c = rw (← c.self.view_is) (step-enters _ _ (opened _ _ _ _ c.in_ok-push.ensures.items c.len.ensures.value))
