use Rattle.std.proofs.Common.{◌≡◌, List, length, Some, string_bytes, sym, subst, inl}
use Rattle.std.proofs.lemmas.Result.{IfOk-weaker, IfErr-weaker, err_from_is_err_and}
use Rattle.string_interner.specs.Text.{Text}
use Rattle.dictcol.specs.Blocks.{held, IsLinesTaskFault, IsTextOf}
use Rattle.dictcol.specs.Fault.{IsNotUtf8}
use Rattle.dictcol.specs.Shards.{HasSharded}
use Rattle.dictcol.specs.TooMany.{IsPastCount}
use Rattle.dictcol.proofs.Taken.{all-read, rest-fault, at-most-before, taken-kept}
use Rattle.dictcol.proofs.shards.Shards.write_whole_lines.Goals as goal

pub returns-in_err-read_block-clause-fault : goal.returns-in_err-read_block-clause-fault
returns-in_err-read_block-clause-fault g c =
    let p = err_from_is_err_and c.from_residual-in_err-read_block.result c.from_residual-in_err-read_block.ensures.1 in
    rw (p.1, p.2) (inl (c.in_err-read_block.ensures.fault (g.R.Read.remaining c.args.input.now) c.loop.invariant.read))

pub returns-then-branch-clause-ok : goal.returns-then-branch-clause-ok
returns-then-branch-clause-ok g c =
    let has_taken = HasSharded g.H.TextHasher.code g.W.Write.contents in
    let input = g.R.Read.remaining c.args.input.now in
    let left = g.R.Read.remaining c.read_block.new.input in
    let lines = c.read_block.new.lines in
    let rest = held c.read_block.new.block in
    let block = c.in_ok-read_block.ensures in
    let all = all-read has_taken input left lines rest (block.end c.if-branch.true) block.rest (block.read input c.loop.invariant.read) in
    IfOk-weaker c.end_block.result (λ text. string_bytes text ≡ rest) (λ text. (seen : List Text) × has_taken lines seen × IsTextOf input seen (string_bytes text))
    (λ text is. (all.0, all.1, subst (IsTextOf input all.0) (sym is) all.2)) c.end_block.ensures.ok

pub returns-then-branch-clause-fault : goal.returns-then-branch-clause-fault
returns-then-branch-clause-fault g c =
    let has_taken = HasSharded g.H.TextHasher.code g.W.Write.contents in
    let input = g.R.Read.remaining c.args.input.now in
    let left = g.R.Read.remaining c.read_block.new.input in
    let lines = c.read_block.new.lines in
    let rest = held c.read_block.new.block in
    let block = c.in_ok-read_block.ensures in
    let read = block.read input c.loop.invariant.read in
    IfErr-weaker c.end_block.result (IsNotUtf8 c.count_lines.result (Some rest)) (IsLinesTaskFault IsPastCount input)
    (λ fault bad. inl (rest-fault has_taken IsPastCount input left lines rest fault (block.end c.if-branch.true) read
    (at-most-before (length read.seen) c.count_lines.result rest fault (c.count_lines.ensures read.seen read.taken) bad))) c.end_block.ensures.fault

pub loop-preserved : goal.loop-preserved
loop-preserved g c =
    let block = c.in_ok-read_block.ensures in
    let read = block.read (g.R.Read.remaining c.args.input.now) c.loop.invariant.read in
    record {
      read = taken-kept (HasSharded g.H.TextHasher.code g.W.Write.contents) _ _ c.read_block.new.lines c.write_above.new.self (held c.read_block.new.block) c.in_ok-write_above.ensures.same read;
      rest = block.rest;
    }
