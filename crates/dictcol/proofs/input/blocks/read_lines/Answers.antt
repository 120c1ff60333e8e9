use Rattle.std.proofs.Common.{◌≡◌, List, length, Some, string_bytes, sym, subst}
use Rattle.std.proofs.lemmas.Result.{IfOk-weaker, IfErr-weaker}
use Rattle.string_interner.specs.Text.{Text}
use Rattle.dictcol.specs.Blocks.{held, IsLinesFault, IsTextOf}
use Rattle.dictcol.specs.Fault.{IsNotUtf8}
use Rattle.dictcol.proofs.Taken.{all-read, rest-fault, at-most-before}
use Rattle.dictcol.proofs.input.blocks.read_lines.Goals as goal

pub returns-then-branch-clause-ok : goal.returns-then-branch-clause-ok
returns-then-branch-clause-ok g c =
    let input = g.R.Read.remaining c.args.input.now in
    let left = g.R.Read.remaining c.read_block.new.input in
    let lines = c.read_block.new.lines in
    let rest = held c.read_block.new.block in
    let block = c.in_ok-read_block.ensures in
    let all = all-read g.L.Taker.has_taken input left lines rest (block.end c.if-branch.true) block.rest (block.read input c.loop.invariant.read) in
    IfOk-weaker c.end_block.result (λ text. string_bytes text ≡ rest) (λ text. (seen : List Text) × g.L.Taker.has_taken lines seen × IsTextOf input seen (string_bytes text))
    (λ text is. (all.0, all.1, subst (IsTextOf input all.0) (sym is) all.2)) c.end_block.ensures.ok

pub returns-then-branch-clause-fault : goal.returns-then-branch-clause-fault
returns-then-branch-clause-fault g c =
    let input = g.R.Read.remaining c.args.input.now in
    let left = g.R.Read.remaining c.read_block.new.input in
    let lines = c.read_block.new.lines in
    let rest = held c.read_block.new.block in
    let block = c.in_ok-read_block.ensures in
    let read = block.read input c.loop.invariant.read in
    IfErr-weaker c.end_block.result (IsNotUtf8 c.count_lines.result (Some rest)) (IsLinesFault g.L.Taker.refuses input)
    (λ fault bad. rest-fault g.L.Taker.has_taken g.L.Taker.refuses input left lines rest fault (block.end c.if-branch.true) read
    (at-most-before (length read.seen) c.count_lines.result rest fault (c.count_lines.ensures read.seen read.taken) bad)) c.end_block.ensures.fault
