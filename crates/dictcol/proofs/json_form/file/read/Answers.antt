use Rattle.std.proofs.Common.{inr}
use Rattle.std.proofs.lemmas.Result.{IfErr-weaker}
use Rattle.serde_json.specs.View.{view}
use Rattle.dictcol.proofs.HoldsLines.{reads-as}
use Rattle.dictcol.proofs.ParseFault.{parse-weaker}
use Rattle.dictcol.proofs.json_form.file.read.Goals as goal

pub returns-clause-err : goal.returns-clause-err
returns-clause-err g c =
    let value = view c.in_ok-value.value in
    IfErr-weaker c.read_value.result _ _ (λ fault. parse-weaker fault (λ lacks. inr (value, c.in_ok-value.ensures.ok, lacks))
    (λ damage. inr (damage.0, λ text. reads-as c.args.file.now text value c.in_ok-value.ensures.ok (damage.1 text)))) c.read_value.ensures.err
