use Rattle.std.proofs.Common.{rules}
use Rattle.std.specs.Prelude.{Err}
use Rattle.handles.proofs.calls.get_or_intern.Goals as goal

pub returns-in-Err : goal.returns-in-Err
returns-in-Err c = record { outcome = Err c.in-Err.status; tells = c.tell.ensures; outcome_holds = search rules }
