use Rattle.std.proofs.Common.{◌≡◌, ◌++◌}
use Rattle.std.specs.Prelude.{slice_range}
use Rattle.string_column.specs.Column.{dictionary_of, rows_of}
use Rattle.string_column.proofs.Lemmas.Recodes.{Recodes}
use Rattle.string_column.proofs.rows.Column.append_codes.Given as goal

-- the rows so far are there, and each code that is known is that of the same text
abbrev pub invariant-loop-row : goal.invariant-loop-row
invariant-loop-row g l = record {
  rows : l.self ≡ l.fn.self ++ slice_range (rows_of (g.T.TextList.texts l.entries) l.codes.items) l.start l.row;
  recodes : Recodes (dictionary_of l.self) (g.T.TextList.texts l.entries) l.known.items;
}
