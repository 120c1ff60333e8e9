use Rattle.std.proofs.Common.{◌++◌, ap, ◌∙◌}
use Rattle.std.proofs.lemmas.Result.{err_from_is_err_and}
use Rattle.dictcol.specs.Blocks.{held}
use Rattle.dictcol.proofs.Taken.{more-read}
use Rattle.dictcol.proofs.input.blocks.read_block.Goals as goal

pub returns-in_err-take_whole_lines-in-Ok-clause-fault : goal.returns-in_err-take_whole_lines-in-Ok-clause-fault
returns-in_err-take_whole_lines-in-Ok-clause-fault g c all has =
    let came = c.in-Ok.ensures.ok in
    let grown = came.2 ∙ ap (λ t. t ++ came.0) c.in_ok-reserve.ensures.same in
    let left = g.R.Read.remaining c.args.input.now in
    let now = g.R.Read.remaining c.read_from.new.input in
    let read = more-read g.L.Taker.has_taken all left now c.args.lines.now (held c.args.block.now) (held c.read_from.new.self) came.0 grown came.3 has in
    let fault = c.in_err-take_whole_lines-in-Ok.ensures.fault all now read in
    let p = err_from_is_err_and c.from_residual-in_err-take_whole_lines-in-Ok.result c.from_residual-in_err-take_whole_lines-in-Ok.ensures.1 in
    rw (p.1, p.2) fault
