use Rattle.std.proofs.Common.{rules}
use Rattle.handles.specs.Any.{ReadsBy}
use Rattle.handles.proofs.Lemmas.Json.{unread}
use Rattle.handles.proofs.calls.json.read.Goals as goal

pub returns-in_err-value : goal.returns-in_err-value
returns-in_err-value c = unread (ReadsBy c.args.exact) _ _ c.in_ok-kind.kind _ c.from_residual-in_err-value.result (search rules) c.in_ok-kind.ensures c.in_err-value.ensures
