use Rattle.std.proofs.Common.{rules}
use Rattle.std.specs.List.{zip}
use Rattle.dictcol.specs.Counts.{IsCountsText}
use Rattle.dictcol.specs.Writes.{Writes}
use Rattle.dictcol.proofs.CountRows.{counts-written}
use Rattle.dictcol.proofs.count.count.Goals as goal

pub returns-clause-written : goal.returns-clause-written
returns-clause-written g c =
    counts-written (g.R.Read.remaining c.args.input.now) c.in_ok-counts.counts c.write_counted.result (zip c.deref.result.now c.interner.result.now.texts)
    (λ lines. Writes (IsCountsText c.args.asked lines) (g.W.Write.contents c.args.output.now) (g.W.Write.contents c.write_counted.new.output))
    (search rules) c.in_ok-counts.ensures.ok c.write_counted.ensures.written
