use Rattle.std.proofs.Common.{rules, ◌≡◌, ◌≢◌, [], ◌∷◌, ◌++◌, length, string_bytes, append-nil, refl, sym, subst, ◌∙◌, inl, inr}
use Rattle.std.proofs.lemmas.List.{nil_from_length}
use Rattle.std.proofs.lemmas.Result.{IfErr-weaker, err_from_is_err_and, on_ok_weaker}
use Rattle.dictcol.specs.Blocks.{held, IsLinesTaskFault, IsTextOf}
use Rattle.dictcol.specs.Distinct.{HasMet}
use Rattle.dictcol.specs.Fault.{IsWriteFault}
use Rattle.dictcol.specs.Lines.{lines_of}
use Rattle.dictcol.specs.TooMany.{LacksLine}
use Rattle.dictcol.proofs.HasMet.{WroteFirst, first-begin, first-end, first-ended, first-more, first-so_far}
use Rattle.dictcol.proofs.Taken.{all-read, at-most-before, input-lines, none-read, rest-fault, taken-kept}
use Rattle.dictcol.proofs.TextLines.{one-line}
use Rattle.dictcol.proofs.TooMany.{rest-refused}
use Rattle.dictcol.proofs.distinct.distinct.Goals as goal
use Rattle.dictcol.proofs.distinct.distinct.Goals.{then-not-is_empty+in_ok-add, else-not-is_empty}

pub loop-init : goal.loop-init
loop-init g c = record {
  read = none-read HasMet (g.R.Read.remaining c.args.input.now) _ _ c.new-lines.ensures (search rules);
  rest = search rules;
  first = first-begin (g.R.Read.remaining c.args.input.now) (g.W.Write.contents c.args.output.now) c.new-lines.result c.new-lines.ensures;
}

pub returns-in_err-read_block-clause-first : goal.returns-in_err-read_block-clause-first
returns-in_err-read_block-clause-first g c = inr (first-so_far _ _ _ _ c.loop.invariant.first)

pub returns-in_err-read_block-clause-fault : goal.returns-in_err-read_block-clause-fault
returns-in_err-read_block-clause-fault g c =
    let p = err_from_is_err_and c.from_residual-in_err-read_block.result c.from_residual-in_err-read_block.ensures.1 in
    rw (p.1, p.2) (inl (c.in_err-read_block.ensures.fault (g.R.Read.remaining c.args.input.now) c.loop.invariant.read))

pub returns-in_err-rest-clause-first : goal.returns-in_err-rest-clause-first
returns-in_err-rest-clause-first g c = inr (first-so_far _ _ _ _ c.loop.invariant.first)

pub returns-in_err-rest-clause-fault : goal.returns-in_err-rest-clause-fault
returns-in_err-rest-clause-fault g c =
    let input = g.R.Read.remaining c.args.input.now in
    let lines = c.read_block.new.lines in
    let rest = held c.read_block.new.block in
    let block = c.in_ok-read_block.ensures in
    let read = block.read input c.loop.invariant.read in
    let p = err_from_is_err_and c.from_residual-in_err-rest.result c.from_residual-in_err-rest.ensures.1 in
    rw (p.1, p.2) (inl (rest-fault HasMet (LacksLine g.B.Store.numbering) input (g.R.Read.remaining c.read_block.new.input) lines rest _ (block.end c.if-branch.true) read
    (at-most-before (length read.seen) c.count_lines.result rest _ (c.count_lines.ensures read.seen read.taken) c.in_err-rest.ensures.fault)))

pub returns-in_err-add-clause-first : goal.returns-in_err-add-clause-first
returns-in_err-add-clause-first g c = inr (first-so_far _ _ _ _ c.loop.invariant.first)

pub returns-in_err-add-clause-fault : goal.returns-in_err-add-clause-fault
returns-in_err-add-clause-fault g c =
    let input = g.R.Read.remaining c.args.input.now in
    let block = c.in_ok-read_block.ensures in
    let all = all-read HasMet input (g.R.Read.remaining c.read_block.new.input) c.read_block.new.lines (held c.read_block.new.block) (block.end c.if-branch.true) block.rest (block.read input c.loop.invariant.read) in
    let rest = string_bytes c.in_ok-rest.rest in
    let text : IsTextOf input all.0 rest = subst (IsTextOf input all.0) (sym c.in_ok-rest.ensures.ok) all.2 in
    let some : rest ≢ [] = λ e. search rules in
    let last : c.deref.result.now ≡ rest = search rules in
    let p = err_from_is_err_and c.from_residual-in_err-add.result c.from_residual-in_err-add.ensures.1 in
    rw (p.1, p.2) (inl (rest-refused (LacksLine g.B.Store.numbering) input all.0 rest _ text some (rw last at (c.in_err-add.ensures.fault all.0 all.1))))

pub returns-then-branch-clause-written : goal.returns-then-branch-clause-written
returns-then-branch-clause-written g c =
    let input = g.R.Read.remaining c.args.input.now in
    let old = g.W.Write.contents c.args.output.now in
    let mid = g.W.Write.contents c.loop.output in
    let lines = c.if-not-is_empty.lines in
    let block = c.in_ok-read_block.ensures in
    let all = all-read HasMet input (g.R.Read.remaining c.read_block.new.input) c.read_block.new.lines (held c.read_block.new.block) (block.end c.if-branch.true) block.rest (block.read input c.loop.invariant.read) in
    let rest = string_bytes c.in_ok-rest.rest in
    let text : IsTextOf input all.0 rest = subst (IsTextOf input all.0) (sym c.in_ok-rest.ensures.ok) all.2 in
    let met : HasMet lines (all.0 ++ lines_of rest) × (lines.written ≡ c.read_block.new.lines.written) =
    elim c.if-not-is_empty.branch as (λ _. HasMet c.if-not-is_empty.lines (all.0 ++ lines_of rest) × (c.if-not-is_empty.lines.written ≡ c.read_block.new.lines.written)) [
      | then-not-is_empty+in_ok-add w ↦
          let some : rest ≢ [] = λ e. search rules in
          let last : w.deref.result.now ≡ rest = search rules in
          let one = one-line rest text.rest_plain some in
          let added : HasMet w.add.new.self (all.0 ++ rest ∷ []) = rw last at (w.in_ok-add.ensures.taken all.0 all.1) in
          (rw (w.lines-is, one) added, rw w.lines-is w.add.ensures.same)
      | else-not-is_empty w ↦
          let none = nil_from_length rest (search rules) in
          (rw (w.lines-is, none, append-nil all.0) all.1, rw w.lines-is refl)
    ] in
    let first : WroteFirst input old mid lines.written = subst (WroteFirst input old mid) (sym (met.1 ∙ c.read_block.ensures.same)) c.loop.invariant.first in
    on_ok_weaker c.write_waiting.result
    (first-end input old mid (g.W.Write.contents c.write_waiting.new.output) lines (input-lines (HasMet lines) input all.0 rest text met.0) first) c.write_waiting.ensures.written

pub returns-then-branch-clause-first : goal.returns-then-branch-clause-first
returns-then-branch-clause-first g c = first-ended c.write_waiting.result _ _ _ c.write_waiting.ensures.fault (returns-then-branch-clause-written g c)

pub returns-then-branch-clause-fault : goal.returns-then-branch-clause-fault
returns-then-branch-clause-fault g c =
    IfErr-weaker c.write_waiting.result IsWriteFault (IsLinesTaskFault (LacksLine g.B.Store.numbering) (g.R.Read.remaining c.args.input.now)) (λ fault failed. inr failed) c.write_waiting.ensures.fault

pub loop-preserved : goal.loop-preserved
loop-preserved g c =
    let input = g.R.Read.remaining c.args.input.now in
    let lines = c.read_block.new.lines in
    let rest = held c.read_block.new.block in
    let block = c.in_ok-read_block.ensures in
    let read = block.read input c.loop.invariant.read in
    let kept = c.in_ok-write_waiting.ensures.met in
    let first = subst (WroteFirst input (g.W.Write.contents c.args.output.now) (g.W.Write.contents c.loop.output)) (sym c.read_block.ensures.same) c.loop.invariant.first in
    record {
      read = taken-kept HasMet _ _ lines c.write_waiting-in-loop.new.self rest (λ ls has. (kept ls has).0) read;
      rest = block.rest;
      first = first-more input (g.R.Read.remaining c.read_block.new.input) _ _ _ lines c.write_waiting-in-loop.new.self rest read first c.in_ok-write_waiting.ensures.written (kept read.seen read.taken).1;
    }

pub returns-clause-first : goal.returns-clause-first
returns-clause-first g c = inr (first-so_far _ _ _ _ c.loop.invariant.first)
