use Rattle.std.proofs.Common.{◌≤◌, ◌<◌, length, ap, arith, map, vec_capacity, rules}
use Rattle.std.proofs.lemmas.Bool.{le-leb, lt-leb}
use Rattle.string_interner.proofs.Lemmas.Backend.Entries.{first_entry, no_entry}
use Rattle.dictcol.specs.Counts.{is_often, row_of}
use Rattle.dictcol.proofs.CountRows.{row-left, row-listed, rows-done, rows-often}
use Rattle.dictcol.proofs.count.list_rows.Goals as goal

pub loop-text-init : goal.loop-text-init
loop-text-init g c =
    let many = rows-often c.args.at_least c.args.counts.now c.args.texts.now.texts c.requires in
    let room : c.count_often-len.result ≤ vec_capacity c.in_ok-rows.rows = search rules in
    record {
      so_far = search rules;
      long = search rules;
      room = omega (arith, many, c.count_often-len.ensures, room);
    }

pub loop-text-preserved-then-count-at_least : goal.loop-text-preserved-then-count-at_least
loop-text-preserved-then-count-at_least g c =
    let first = first_entry g.B.Store.numbering _ _ _ _ _ _ c.in-Some.ensures.steps in
    let within : c.loop-text.at < length c.args.counts.now = omega (arith, ap length first, c.loop-text.invariant.long) in
    let passes = le-leb c.args.at_least _ c.if-count-at_least.true in
    record {
      so_far = row-listed (is_often c.args.at_least) c.loop-text.rows.items c.push_reserved.new.self.items c.args.counts.now _ _ _ c.loop-text.at _ c.in-Some.text c.loop-text.invariant.so_far first within (search rules) passes c.push_reserved.ensures.items;
      long = omega (arith, ap length first, c.loop-text.invariant.long);
      room = omega (arith, c.loop-text.invariant.room, c.push_reserved.ensures.capacity);
    }

pub loop-text-preserved : goal.loop-text-preserved
loop-text-preserved g c =
    let first = first_entry g.B.Store.numbering _ _ _ _ _ _ c.in-Some.ensures.steps in
    let within : c.loop-text.at < length c.args.counts.now = omega (arith, ap length first, c.loop-text.invariant.long) in
    let fails = lt-leb c.args.at_least _ c.if-count-at_least.false in
    record {
      so_far = row-left (is_often c.args.at_least) (map row_of c.loop-text.rows.items) c.args.counts.now _ _ _ c.loop-text.at _ c.in-Some.text.now c.loop-text.invariant.so_far first within (search rules) fails;
      long = omega (arith, ap length first, c.loop-text.invariant.long);
      room = c.loop-text.invariant.room;
    }

pub returns-clause-rows : goal.returns-clause-rows
returns-clause-rows g c =
    rows-done (is_often c.args.at_least) (map row_of c.loop-text.rows.items) c.args.counts.now _ _ c.loop-text.at c.loop-text.invariant.so_far (no_entry g.B.Store.numbering _ _ c.in-None.ensures.steps.0)
