use Rattle.dictcol.specs.File.{IsColumnFile}
use Rattle.dictcol.specs.Lines.{AreLines}
use Rattle.dictcol.specs.Writes.{Writes}
use Rattle.dictcol.proofs.Written.{input-written}
use Rattle.dictcol.proofs.encode.encode.Goals as goal

pub returns-clause-written : goal.returns-clause-written
returns-clause-written g c =
    input-written (g.R.Read.remaining c.args.input.now) c.write_file.result (λ text. AreLines text c.in_ok-lines.lines c.in_ok-lines.is_ended)
    (λ text. Writes (IsColumnFile text) (g.W.Write.contents c.args.output.now) (g.W.Write.contents c.write_file.new.output)) c.in_ok-lines.ensures.ok c.write_file.ensures.written
