use Rattle.std.proofs.Common.{◌≡◌, ◌++◌, [], length, drop, sym, ap, ◌∙◌, arith, rules}
use Rattle.std.proofs.Math.ListN.{drop_of_length-le}
use Rattle.dictcol.specs.Plain.{part_text, plain_text}
use Rattle.dictcol.proofs.HeldRows.{part-behind}
use Rattle.dictcol.proofs.plain.held.HeldText.make_ready.Goals as goal

pub returns-clause-same : goal.returns-clause-same
returns-clause-same c =
    let text = c.args.self.now in
    let rows = text.rows.0 in
    let is_cut = text.rows.1 in
    let end = c.end_block-end.result in
    let same : c.len.result ≡ length text.ready.items = search rules in
    let given : drop text.given text.ready.items ≡ [] = drop_of_length-le text.ready.items (omega (arith, same, c.if-self-len.false)) in
    let wrote : c.write_part-outcome.new.output.items ≡ part_text rows is_cut text.next end = search rules in
    let within = c.end_block-end.ensures.within in
    ap (λ ready. ready ++ plain_text (drop end rows) is_cut) wrote ∙ sym (part-behind rows is_cut text.next end within.0 within.1)
    ∙ ap (λ ready. ready ++ plain_text (drop text.next rows) is_cut) (sym given)
