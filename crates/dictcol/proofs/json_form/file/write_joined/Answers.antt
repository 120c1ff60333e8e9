use Rattle.std.proofs.Common.{◌<◌, [], length, Bor, arith}
use Rattle.std.proofs.KnownBytes.{Appends-trans}
use Rattle.string_interner.specs.Text.{Text}
use Rattle.dictcol.proofs.Rows.{rows-more}
use Rattle.dictcol.proofs.json_form.file.write_joined.Goals as goal

pub loop-row-preserved : goal.loop-row-preserved
loop-row-preserved g c =
    let inside : c.loop-row.row < length c.args.codes.now.items = omega (arith, c.loop-row-test.true, c.len-row-end.ensures) in
    let within : c.at.result < length c.args.texts.now = rw c.at.ensures (c.requires c.loop-row.row 0 inside) in
    let none : Bor Text = record { ref_ptr = (0, 0); now = [] } in
    let text = rows-more c.args.texts.now c.args.codes.now.items c.loop-row.row c.at.result none inside c.at.ensures within in
    rw text (Appends-trans _ _ _ _ _ c.loop-row.invariant c.in_ok-write_line.ensures)
