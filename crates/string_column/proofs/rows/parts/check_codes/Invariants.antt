use Rattle.std.proofs.Common.{◌≡◌, ◌<◌, ◌≤◌, List, length, take}
use Rattle.std.specs.Prelude.{All, IsTrue}
use Rattle.string_interner.specs.Text.{Text, IsDistinct}
use Rattle.string_column.specs.Column.{dictionary_of, rows_of}
use Rattle.string_column.proofs.rows.parts.check_codes.Given as goal

-- the codes so far are indexes, and if they are in order, the rows so far have the first entries, in their order
abbrev pub invariant-loop-row : goal.invariant-loop-row
invariant-loop-row l = record {
  indexes : All (λ code. code < l.count) (take l.row l.codes.items);
  few : l.next ≤ l.row;
  within : l.next ≤ l.count;
  ordered : IsTrue l.is_in_order → (entries : List Text) → IsDistinct entries → length entries ≡ l.count → dictionary_of (rows_of entries (take l.row l.codes.items)) ≡ take l.next entries;
}
