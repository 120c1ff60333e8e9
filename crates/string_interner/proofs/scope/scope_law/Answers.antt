use Rattle.string_interner.proofs.Lemmas.Scopes.Layers.{leaving-gives-back}
use Rattle.string_interner.proofs.scope.scope_law.Goals as goal

pub returns : goal.returns
returns c = leaving-gives-back
