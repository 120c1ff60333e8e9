use Rattle.std.proofs.Common.{◌≡◌, ◌≢◌, ◌<◌, ◌-◌, ◌++◌, [], length, take, Ok, subst, arith, rules}
use Rattle.std.specs.Prelude.{slice_range}
use Rattle.std.specs.Io.KnownBytes.{Appends}
use Rattle.std.proofs.KnownBytes.{Appends-trans}
use Rattle.string_interner.proofs.Lemmas.BucketBackend.Stays.{length-slice_range}
use Rattle.dictcol.specs.Plain.{plain_text}
use Rattle.dictcol.proofs.AreRows.{cut-run, whole-run}
use Rattle.dictcol.proofs.PlainColumns.{appends-kept, in-any-case}
use Rattle.dictcol.proofs.plain.rows.write_rows.Goals as goal
use Rattle.dictcol.proofs.plain.rows.write_rows.Goals.{then-is_cut, else-is_cut}

pub returns-clause-written : goal.returns-clause-written
returns-clause-written g c = λ rows are.
    let ran : c.write_runs.result ≡ Ok (c.in_ok-start.start, c.in_ok-start.end) = search rules in
    let wrote = rw ran at (c.write_runs.ensures.written rows are) in
    let within = rw ran at c.write_runs.ensures.within in
    let run = slice_range c.args.file.now c.in_ok-start.start c.in_ok-start.end in
    let long = length-slice_range c.args.file.now c.in_ok-start.start c.in_ok-start.end within.1 in
    let some : rows ≢ [] → 0 < length run = λ is. let below = wrote.1 is in omega (arith, below, long) in
    let text : wrote.0 ++ take c.if-is_cut.count run ≡ plain_text rows c.args.is_cut = elim c.if-is_cut.branch [
      | then-is_cut w ↦ let count : c.if-is_cut.count ≡ length run - 1 = search rules in rw (count, w.if-is_cut.true) (cut-run rows wrote.0 run wrote.2 some)
      | else-is_cut w ↦ let count : c.if-is_cut.count ≡ length run = search rules in rw (count, w.if-is_cut.false) (whole-run rows wrote.0 run wrote.2)
    ] in
    let start = g.W.Write.contents c.args.output.now in
    let end = g.W.Write.contents c.write.new.output in
    let both = Appends-trans start (g.W.Write.contents c.write_runs.new.output) end wrote.0 (take c.if-is_cut.count run) wrote.3 c.in_ok-write.ensures.written in
    in-any-case c.map_err-2.result (appends-kept start end (g.W.Write.contents c.flush.new.self) (plain_text rows c.args.is_cut) (subst (Appends start end) text both) c.flush.ensures.bytes)
