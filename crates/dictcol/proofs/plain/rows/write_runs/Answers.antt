use Rattle.std.proofs.Common.{◌≡◌, ◌<◌, ◌≤◌, ◌+◌, List, length, take, drop, w32, arith, rules}
use Rattle.std.specs.Prelude.{slice_index_or}
use Rattle.std.specs.Int.{from_le_bytes}
use Rattle.string_interner.specs.Text.{Text}
use Rattle.dictcol.specs.Plain.{AreRows}
use Rattle.dictcol.proofs.AreRows.{AreRunsTo, no-runs, bounds-within, run-on, run-ended, all-runs}
use Rattle.dictcol.proofs.plain.rows.write_runs.Goals as goal
use Rattle.dictcol.proofs.plain.rows.write_runs.Goals.{then-begin-end+in_ok-write_all, else-begin-end}

pub rows-init : goal.rows-init
rows-init g c = record {
  ordered = omega arith;
  within = omega arith;
  so_far = λ rows are. no-runs c.args.file.now are.lines are.codes_are c.args.numbers.now (g.W.Write.contents c.args.output.now) are.numbers_are.bytes_are;
}

pub bounds-bounds-line : goal.bounds-bounds-line
bounds-bounds-line g c =
    let rows = c.requires.0 in
    let are = c.requires.1 in
    let enough : 4 ≤ length c.rows.rest.now = search rules in
    let first : c.in-Some.first.now ≡ take 4 c.rows.rest.now = search rules in
    let behind : c.in-Some.behind.now ≡ drop 4 c.rows.rest.now = search rules in
    let is : c.from_le_bytes-line.result ≡ from_le_bytes w32 c.in-Some.first.now = c.from_le_bytes-line.ensures in
    let within = bounds-within c.args.file.now c.args.bounds.now c.args.numbers.now rows are c.rows.rest.now c.in-Some.first.now c.in-Some.behind.now c.rows.start c.rows.end c.from_le_bytes-line.result _ _
    (c.rows.invariant.so_far rows are) enough first behind is in
    omega (arith, within)

pub bounds-bounds-line-in-Some : goal.bounds-bounds-line-in-Some
bounds-bounds-line-in-Some g c =
    let rows = c.requires.0 in
    let are = c.requires.1 in
    let enough : 4 ≤ length c.rows.rest.now = search rules in
    let first : c.in-Some.first.now ≡ take 4 c.rows.rest.now = search rules in
    let behind : c.in-Some.behind.now ≡ drop 4 c.rows.rest.now = search rules in
    let is : c.from_le_bytes-line.result ≡ from_le_bytes w32 c.in-Some.first.now = c.from_le_bytes-line.ensures in
    bounds-within c.args.file.now c.args.bounds.now c.args.numbers.now rows are c.rows.rest.now c.in-Some.first.now c.in-Some.behind.now c.rows.start c.rows.end c.from_le_bytes-line.result _ _
    (c.rows.invariant.so_far rows are) enough first behind is

pub rows-preserved : goal.rows-preserved
rows-preserved g c =
    let file = c.args.file.now in
    let bounds = c.args.bounds.now in
    let numbers = c.args.numbers.now in
    let rest = c.rows.rest.now in
    let first = c.in-Some.first.now in
    let behind = c.in-Some.behind.now in
    let start = c.rows.start in
    let end = c.rows.end in
    let line = c.from_le_bytes-line.result in
    let enough : 4 ≤ length c.rows.rest.now = search rules in
    let first-is : c.in-Some.first.now ≡ take 4 c.rows.rest.now = search rules in
    let behind-is : c.in-Some.behind.now ≡ drop 4 c.rows.rest.now = search rules in
    let is : c.from_le_bytes-line.result ≡ from_le_bytes w32 c.in-Some.first.now = c.from_le_bytes-line.ensures in
    let on : (rows : List Text) → (are : AreRows c.args.file.now c.args.bounds.now c.args.numbers.now rows)
    → AreRunsTo c.args.file.now are.lines are.codes_are c.in-Some.behind.now c.if-begin-end.start (slice_index_or c.args.bounds.now (c.from_le_bytes-line.result + 1) 0) (g.W.Write.contents c.args.output.now) (g.W.Write.contents c.if-begin-end.output)
    = λ rows are. elim c.if-begin-end.branch [
      | then-begin-end+in_ok-write_all w ↦ rw (w.start-is, w.output-is)
          (run-ended file bounds numbers rows are rest first behind start end line _ _ (c.rows.invariant.so_far rows are) enough first-is behind-is is (g.W.Write.contents w.write_all.new.self) w.in_ok-write_all.ensures.bytes)
      | else-begin-end w ↦ rw (w.start-is, w.output-is)
          (run-on file bounds numbers rows are rest first behind start end line _ _ (c.rows.invariant.so_far rows are) enough first-is behind-is is w.if-begin-end.false)
    ] in
    let one = on c.requires.0 c.requires.1 in
    record { ordered = one.ordered; within = one.within; so_far = on }

pub returns-clause-written : goal.returns-clause-written
returns-clause-written g c = λ rows are. let short : length c.rows.rest.now < 4 = search rules in
    all-runs c.args.file.now c.args.bounds.now c.args.numbers.now rows are c.rows.rest.now c.rows.start c.rows.end _ _ (c.rows.invariant.so_far rows are) short
