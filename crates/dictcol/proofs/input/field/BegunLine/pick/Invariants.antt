use Rattle.std.proofs.Common.{◌≡◌, ◌≤◌, length, take, drop}
use Rattle.dictcol.specs.Field.{Picks}
use Rattle.dictcol.proofs.input.field.BegunLine.pick.Given as goal

-- These are picked of the bytes so far, and those behind are as they were.
abbrev pub invariant-loop-at : goal.invariant-loop-at
invariant-loop-at l = record {
  within : l.kept ≤ l.at;
  long : length l.bytes ≡ length l.fn.bytes;
  behind : drop l.at l.bytes ≡ drop l.at l.fn.bytes;
  picked : Picks l.field l.fn.self l.self (take l.at l.fn.bytes) (take l.kept l.bytes);
}
