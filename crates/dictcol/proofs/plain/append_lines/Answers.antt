use Rattle.std.proofs.Common.{inl}
use Rattle.std.proofs.lemmas.Result.{err_from_is_err_and}
use Rattle.dictcol.specs.TooMany.{LacksBehind, LacksLine}
use Rattle.dictcol.proofs.TooMany.{behind-refused, lines-weaker}
use Rattle.dictcol.proofs.plain.append_lines.Goals as goal

pub returns-in_err-more-clause-fault : goal.returns-in_err-more-clause-fault
returns-in_err-more-clause-fault g c =
    let numbering = g.B.Store.numbering in
    let p = err_from_is_err_and c.from_residual.result c.from_residual.ensures.1 in
    rw (p.1, p.2) (lines-weaker (LacksLine numbering) (LacksBehind numbering c.args.lines.now) (λ front line lacks. inl lacks) (g.R.Read.remaining c.args.input.now) _ c.in_err-more.ensures.fault)

pub returns-clause-fault : goal.returns-clause-fault
returns-clause-fault g c =
    rw c.of_intern.ensures.value (behind-refused g.B.Store.numbering c.args.lines.now c.in_ok-more.more _ c.in_ok-more.is_ended (g.R.Read.remaining c.args.input.now) c.in-Err.error c.in-Err.ensures c.in_ok-more.ensures.ok)
