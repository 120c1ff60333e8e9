use Rattle.std.proofs.Common.{◌≡◌, get_or, [], ap, arith}
use Rattle.std.specs.Prelude.{slice_range}
use Rattle.std.proofs.lemmas.List.{length-map}
use Rattle.string_column.specs.Column.{rows_of}
use Rattle.string_column.proofs.Lemmas.Parts.{codes-are, refused-row}
use Rattle.string_column.proofs.Lemmas.Recodes.{range-all}
use Rattle.string_column.proofs.rows.Column.encode_codes.Goals as goal

pub returns : goal.returns
returns g c =
    let texts = g.T.TextList.texts c.args.texts.now in
    let codes = c.args.codes.now.items in
    let rows = rows_of texts codes in
    let all : slice_range rows 0 c.len.result ≡ rows = range-all rows c.len.result (omega (arith, c.len.ensures, length-map codes (λ code. get_or texts code []))) in
    (c.requires.distinct, rw (c.in_ok-append_codes.ensures, all, c.new.ensures.items) (codes-are texts codes c.requires.indexes))

pub returns-in_err-append_codes : goal.returns-in_err-append_codes
returns-in_err-append_codes g c =
    let texts = g.T.TextList.texts c.args.texts.now in
    let codes = c.args.codes.now.items in
    let rows = rows_of texts codes in
    let all : slice_range rows 0 c.len.result ≡ rows = range-all rows c.len.result (omega (arith, c.len.ensures, length-map codes (λ code. get_or texts code []))) in
    refused-row g.B.Store.numbering texts codes (rows_of c.args.dictionary c.new.result.items) c.append_codes.new.self c.from_residual.result c.in_err-append_codes.field-0.0
    c.from_residual.ensures.1 c.requires.indexes (ap (rows_of c.args.dictionary) c.new.ensures.items) (rw all at c.in_err-append_codes.ensures)
