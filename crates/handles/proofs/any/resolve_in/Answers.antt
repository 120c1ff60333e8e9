use Rattle.std.proofs.Common.{sym}
use Rattle.handles.proofs.Lemmas.Entries.{read_as}
use Rattle.handles.proofs.any.resolve_in.Goals as goal

pub returns : goal.returns
returns g c = read_as g.B.Store.numbering c.args.interner.now _ _ _ (sym c.in_ok-symbol.ensures) c.resolve.ensures.value
