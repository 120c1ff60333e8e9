use Rattle.std.proofs.Common.{inr, subst}
use Rattle.std.proofs.lemmas.Result.{on_ok_weaker, IfErr-weaker}
use Rattle.dictcol.specs.File.{DecodesFile}
use Rattle.dictcol.specs.Merge.{CrowdsBehind}
use Rattle.dictcol.proofs.PlainColumns.{some-weaker}
use Rattle.dictcol.proofs.Written.{file-fault}
use Rattle.dictcol.proofs.merge.append_input.Goals as goal

pub returns-clause-ok : goal.returns-clause-ok
returns-clause-ok g c =
    on_ok_weaker c.append_file.result
    (λ more. (more.0, more.2, some-weaker _ _ (g.R.Read.remaining c.args.input.now) (λ all is. subst (λ file. DecodesFile file more.0) is more.1) c.in_ok-bytes.ensures.whole)) c.append_file.ensures.ok

pub returns-clause-fault : goal.returns-clause-fault
returns-clause-fault g c =
    IfErr-weaker c.append_file.result _ _ (λ fault why. inr (file-fault (CrowdsBehind g.B.Store.numbering c.args.text.now) (g.R.Read.remaining c.args.input.now) c.in_ok-bytes.bytes.items fault c.in_ok-bytes.ensures.whole why)) c.append_file.ensures.err
