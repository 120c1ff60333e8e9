use Rattle.std.proofs.Common.{◌≡◌, inr, rules}
use Rattle.std.proofs.lemmas.Result.{IfErr-weaker}
use Rattle.dictcol.proofs.json_form.file.read_bytes.Goals as goal

pub returns-clause-err : goal.returns-clause-err
returns-clause-err g c =
    let file : c.in_ok-check_utf8.field-0.now ≡ c.args.bytes.items = search rules in
    IfErr-weaker c.read.result _ _ (λ fault parse. inr (c.in_ok-check_utf8.field-0.now, file, parse)) c.read.ensures.err
