use Rattle.std.proofs.Common.{inl, inr}
use Rattle.std.proofs.lemmas.Result.{IfErr-weaker}
use Rattle.dictcol.specs.Crowded.{CrowdsFile, default_numbering}
use Rattle.dictcol.proofs.Written.{file-fault}
use Rattle.dictcol.proofs.decode.decode.Goals as goal

pub returns-clause-err : goal.returns-clause-err
returns-clause-err g c =
    IfErr-weaker c.decode.result _ _ (λ fault why. elim why [
      | inl file ↦ inr (inl (file-fault (CrowdsFile default_numbering) (g.R.Read.remaining c.args.input.now) c.in_ok-bytes.bytes.items fault c.in_ok-bytes.ensures.whole file))
      | inr writing ↦ inr (inr writing)
    ]) c.decode.ensures.err
