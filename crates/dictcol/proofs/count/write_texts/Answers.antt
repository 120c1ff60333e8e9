use Rattle.std.proofs.Common.{◌≡◌, [], rules}
use Rattle.std.proofs.KnownBytes.{Appends-nil}
use Rattle.std.specs.List.{filter, zip}
use Rattle.std.proofs.lemmas.Bool.{le-leb, lt-leb}
use Rattle.string_interner.proofs.Lemmas.Backend.Entries.{first_entry, no_entry}
use Rattle.dictcol.specs.Counts.{is_often}
use Rattle.dictcol.proofs.CountRows.{rows-done, text-left, text-written}
use Rattle.dictcol.proofs.count.write_texts.Goals as goal

pub loop-text-init : goal.loop-text-init
loop-text-init g c = ([], Appends-nil _, search rules, search rules)

pub loop-text-preserved-then-count-at_least : goal.loop-text-preserved-then-count-at_least
loop-text-preserved-then-count-at_least g c =
    let first = first_entry g.B.Store.numbering _ _ _ _ _ _ c.in-Some.ensures.steps in
    let fails = lt-leb c.args.at_least _ c.if-count-at_least.true in
    text-left (is_often c.args.at_least) _ _ c.args.counts.now _ c.loop-text.at _ _ _ c.in-Some.text.now c.loop-text.invariant first (search rules) fails

pub loop-text-preserved : goal.loop-text-preserved
loop-text-preserved g c =
    let first = first_entry g.B.Store.numbering _ _ _ _ _ _ c.in-Some.ensures.steps in
    let passes = le-leb c.args.at_least _ c.if-count-at_least.false in
    text-written (is_often c.args.at_least) _ _ _ c.args.counts.now _ c.loop-text.at _ _ _ c.in-Some.text.now c.loop-text.invariant first (search rules) passes c.in_ok-write_row.ensures.written

pub returns-clause-written : goal.returns-clause-written
returns-clause-written g c =
    let inv = c.loop-text.invariant in
    let test = is_often c.args.at_least in
    let same : inv.0 ≡ filter test (zip c.args.counts.now c.args.texts.now.texts) = rows-done test inv.0 c.args.counts.now _ _ c.loop-text.at inv.2 (no_entry g.B.Store.numbering _ _ c.in-None.ensures.steps.0) in
    rw (← same) (search rules)
