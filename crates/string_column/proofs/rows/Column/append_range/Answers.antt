use Rattle.string_column.proofs.Lemmas.Rows.{codes-within}
use Rattle.string_column.proofs.rows.Column.append_range.Goals as goal

pub append_codes-requires-clause-indexes : goal.append_codes-requires-clause-indexes
append_codes-requires-clause-indexes g c = codes-within c.other.inside.dictionary c.other.inside.codes.items _ c.other.invariant.codes_are
