use Rattle.std.proofs.Common.{None, map, ap, ◌∙◌}
use Rattle.std.specs.Prelude.{slice_index_or}
use Rattle.string_interner.specs.Extend.{texts_of}
use Rattle.dictcol.proofs.PlainColumns.{some-weaker}
use Rattle.dictcol.proofs.Sought.{codes-fit, kept-column, listed-numbers}
use Rattle.dictcol.proofs.plain.find.find_numbers.Goals as goal

pub list_numbers-requires : goal.list_numbers-requires
list_numbers-requires g c =
    let sought = c.take_file.new.taker in
    let read = c.in_ok-take_file.ensures.ok in
    let column = kept-column _ _ _ _ _ c.take_file.ensures.same c.in_ok-sought.ensures.codes in
    codes-fit sought.texts sought.codes.items sought.numbers.items (texts_of c.args.asked.now) read.0 column read.1.numbers_are

pub returns-clause-ok : goal.returns-clause-ok
returns-clause-ok g c =
    let sought = c.take_file.new.taker in
    let read = c.in_ok-take_file.ensures.ok in
    let column = kept-column _ _ _ _ _ c.take_file.ensures.same c.in_ok-sought.ensures.codes in
    let listed = listed-numbers read.0 sought.texts sought.codes.items (texts_of c.args.asked.now) column.codes_are in
    let numbers = c.in_ok-list_numbers.ensures.ok ∙ ap (λ ns. map (λ code. slice_index_or ns code None) sought.codes.items) read.1.numbers_are ∙ listed in
    some-weaker _ _ (g.R.Read.remaining c.args.file.now) (λ text is. record { lines = read.0; lines_are = is; numbers_are = numbers; count_is = read.1.total_is }) read.2
