use Rattle.std.proofs.Common.{◌≡◌, length, get_or, max, [], sym, ap, ◌∙◌}
use Rattle.std.specs.Prelude.{slice_range}
use Rattle.std.specs.Option.{unwrap_or}
use Rattle.std.proofs.lemmas.List.{length-map}
use Rattle.string_column.specs.Column.{rows_of}
use Rattle.dictcol.proofs.Excerpt.{range-there, rows-range}
use Rattle.dictcol.proofs.get.RowRange.within.Goals as goal

pub returns-clause-rows : goal.returns-clause-rows
returns-clause-rows c = λ lines codes count.
    let start = c.args.self.start in
    let long : length (rows_of lines codes) ≡ c.args.count = length-map codes (λ code. get_or lines code []) ∙ count in
    let end : c.unwrap_or.result ≡ unwrap_or c.args.self.end (length (rows_of lines codes)) = c.unwrap_or.ensures ∙ ap (unwrap_or c.args.self.end) (sym long) in
    ap (rows_of lines) (range-there codes c.args.count start c.unwrap_or.result c.min-start.result c.max.result count c.min-start.ensures (c.max.ensures ∙ ap (λ n. max n c.min-start.result) c.min-end.ensures))
    ∙ rows-range lines codes start c.unwrap_or.result ∙ ap (slice_range (rows_of lines codes) start) end
