use Rattle.std.proofs.Common.{◌≡◌, ap₂, ◌∙◌, rules}
use Rattle.std.specs.List.{zip}
use Rattle.string_column.specs.Column.{counts_of}
use Rattle.dictcol.proofs.CountRows.{counted-rows}
use Rattle.dictcol.proofs.count.write_column_counts.Goals as goal

pub returns-clause-written : goal.returns-clause-written
returns-clause-written g c =
    let counts : c.deref.result.now ≡ counts_of c.args.lines.now = search rules in
    c.write_counted.ensures.written c.args.lines.now (ap₂ zip counts c.dictionary.ensures ∙ counted-rows c.args.lines.now)
