use Rattle.std.proofs.Common.{◌<◌, length, arith, leb-true}
use Rattle.std.specs.Cmp.{first_so, second_so}
use Rattle.std.proofs.lemmas.List.{take_all}
use Rattle.std.proofs.lemmas.List.Elements.{All-more}
use Rattle.string_column.proofs.Lemmas.Parts.{ordered-known, ordered-new}
use Rattle.string_column.proofs.rows.parts.check_codes.Goals as goal
use Rattle.string_column.proofs.rows.parts.check_codes.Goals.{then-code-next, else-code-next}

pub loop-row-preserved : goal.loop-row-preserved
loop-row-preserved c =
    let inside : c.loop-row.row < length c.args.codes.now.items = omega (arith, c.loop-row-test.true, c.len-row-end.ensures) in
    let within : c.at-code.result < c.args.count = omega (arith, c.if-code-count.false) in
    let indexes = All-more (λ code. code < c.args.count) c.args.codes.now.items c.loop-row.row 0 inside c.loop-row.invariant.indexes (rw (← c.at-code.ensures) within) in
    elim c.if-code-next.branch [
      | then-code-next w ↦ rw w.next-is (record {
        indexes = indexes;
        few = omega (arith, c.loop-row.invariant.few);
        within = omega (arith, w.if-code-next.true);
        ordered = λ in_order entries distinct long. ordered-new entries c.args.codes.now.items c.loop-row.next c.loop-row.row c.at-code.result distinct inside c.at-code.ensures w.if-code-next.true
            (omega (arith, w.if-code-next.true)) (c.loop-row.invariant.ordered (first_so _ _ in_order) entries distinct long);
      })
      | else-code-next w ↦ rw w.next-is (record {
        indexes = indexes;
        few = omega (arith, c.loop-row.invariant.few);
        within = c.loop-row.invariant.within;
        ordered = λ in_order entries distinct long.
            let upto = leb-true _ _ (second_so c.loop-row.is_in_order _ in_order) in
            ordered-known entries c.args.codes.now.items c.loop-row.next c.loop-row.row c.at-code.result inside c.at-code.ensures
            (omega (arith, w.if-code-next.false)) (omega (arith, c.loop-row.invariant.within)) (c.loop-row.invariant.ordered (first_so _ _ in_order) entries distinct long);
      })
    ]

pub returns-clause-indexes : goal.returns-clause-indexes
returns-clause-indexes c = rw (take_all c.loop-row.row c.args.codes.now.items (omega (arith, c.loop-row-test.false, c.len-row-end.ensures))) at c.loop-row.invariant.indexes
