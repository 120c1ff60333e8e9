use Rattle.std.proofs.Common.{arith, reverse}
use Rattle.std.proofs.lemmas.List.{length-reverse}
use Rattle.string_interner.proofs.Lemmas.Scopes.Layers.{layers-count}
use Rattle.string_interner.proofs.scope.Scopes.depth.Goals as goal

pub returns : goal.returns
returns g c = rw (← c.self.view_is) (omega (arith, c.len.ensures, c.self.inside.starts.ok, layers-count (reverse c.self.inside.starts.items) c.self.inside.interner.texts, length-reverse c.self.inside.starts.items))
