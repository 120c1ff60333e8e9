use Rattle.std.proofs.Common.{◌≡◌, ◌≤◌, ◌+◌, ◌++◌, drop, length, map, vec_capacity}
use Rattle.std.specs.List.{filter, zip}
use Rattle.dictcol.specs.Counts.{is_often, row_of}
use Rattle.dictcol.proofs.count.list_rows.Given as goal

-- the rows so far, and those ahead that occur often enough, are all; and there is room for them
abbrev pub invariant-loop-text : goal.invariant-loop-text
invariant-loop-text g l = record {
  so_far : map row_of l.rows.items ++ filter (is_often l.at_least) (zip (drop l.at l.counts) l.text-iterator.ahead) ≡ filter (is_often l.at_least) (zip l.counts l.texts.texts);
  long : l.at + length l.text-iterator.ahead ≡ length l.counts;
  room : length (filter (is_often l.at_least) (zip l.counts l.texts.texts)) ≤ vec_capacity l.rows;
}
