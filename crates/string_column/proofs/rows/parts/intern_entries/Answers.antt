use Rattle.std.proofs.Common.{[], get_or, Bor}
use Rattle.string_interner.specs.Text.{Text}
use Rattle.string_interner.specs.Extend.{texts_of}
use Rattle.string_column.proofs.Lemmas.Parts.{text-at, repeat-is, entry-more, refused-entry}
use Rattle.string_column.proofs.rows.parts.intern_entries.Goals as goal

pub returns-then-branch-index-clause-fault : goal.returns-then-branch-index-clause-fault
returns-then-branch-index-clause-fault g c =
    let none : Bor Text = record { ref_ptr = (0, 0); now = [] } in
    let found = c.in_ok-intern.ensures in
    repeat-is (texts_of c.args.texts.now) c.loop-index.entries c.intern.new.self (get_or c.args.texts.now c.loop-index.index none).now c.loop-index.index c.in_ok-intern.field-0
    c.loop-index.invariant.so_far (text-at c.args.texts.now c.loop-index.index none c.loop-index-test.true) c.loop-index.invariant.distinct found.0 found.1 c.if-branch-index.true

pub loop-index-preserved : goal.loop-index-preserved
loop-index-preserved g c =
    let none : Bor Text = record { ref_ptr = (0, 0); now = [] } in
    let found = c.in_ok-intern.ensures in
    let more = entry-more (texts_of c.args.texts.now) c.loop-index.entries c.intern.new.self (get_or c.args.texts.now c.loop-index.index none).now c.loop-index.index c.in_ok-intern.field-0
    c.loop-index.invariant.so_far (text-at c.args.texts.now c.loop-index.index none c.loop-index-test.true) c.loop-index.invariant.distinct found.0 found.1 c.if-branch-index.false in
    record { so_far = more.0; distinct = more.1 }

pub returns-in_err-intern-clause-fault : goal.returns-in_err-intern-clause-fault
returns-in_err-intern-clause-fault g c =
    let none : Bor Text = record { ref_ptr = (0, 0); now = [] } in
    refused-entry g.B.Store.numbering (texts_of c.args.texts.now) c.loop-index.entries c.loop-index.index (get_or c.args.texts.now c.loop-index.index none).now c.from_residual.result c.in_err-intern.field-0.0
    c.from_residual.ensures.1 c.loop-index.invariant.so_far (text-at c.args.texts.now c.loop-index.index none c.loop-index-test.true) c.loop-index.invariant.distinct c.in_err-intern.ensures.0
