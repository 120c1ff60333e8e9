use Rattle.std.proofs.Common.{◌≡◌, IfErr, Some, inl, length, sym, ap, ◌∙◌, arith, rules}
use Rattle.std.proofs.lemmas.List.{length-map}
use Rattle.std.proofs.lemmas.Result.{on_ok_weaker, IfErr-weaker}
use Rattle.string_interner.specs.Extend.{texts_of}
use Rattle.string_column.specs.Column.{rows_of}
use Rattle.dictcol.specs.Crowded.{CrowdsFile, default_numbering}
use Rattle.dictcol.specs.File.{IsFileFault}
use Rattle.dictcol.specs.Lines.{text_of_lines}
use Rattle.dictcol.proofs.HoldsLines.{decodes-lines}
use Rattle.dictcol.proofs.json_form.file.decode.Goals as goal

pub returns-in_err-parts-clause-err : goal.returns-in_err-parts-clause-err
returns-in_err-parts-clause-err g c =
    let faults : IfErr c.from_residual.result (IsFileFault (CrowdsFile default_numbering) (Some c.args.bytes.items)) = search rules in
    IfErr-weaker c.from_residual.result _ _ (λ fault why. inl why) faults

pub write_lines-requires : goal.write_lines-requires
write_lines-requires g c =
    let parts = c.in_ok-parts.parts in
    let texts : texts_of c.deref.result.now ≡ c.in_ok-parts.parts.dictionary.texts = search rules in
    let count : length c.deref.result.now ≡ length c.in_ok-parts.parts.dictionary.texts = sym (length-map c.deref.result.now (λ text. text.now)) ∙ ap length texts in
    λ row none within. let below = c.in_ok-parts.ensures.within row none within in omega (arith, count, below)

pub returns-clause-written : goal.returns-clause-written
returns-clause-written g c =
    let parts = c.in_ok-parts.parts in
    let texts : texts_of c.deref.result.now ≡ c.in_ok-parts.parts.dictionary.texts = search rules in
    let decodes = decodes-lines c.args.bytes.items (rows_of parts.dictionary.texts parts.codes.items) parts.is_ended c.in_ok-parts.ensures.lines in
    on_ok_weaker c.write_lines.result (λ appends. (text_of_lines (rows_of parts.dictionary.texts parts.codes.items) parts.is_ended, decodes, rw texts at appends)) c.write_lines.ensures.written
