use Rattle.std.proofs.Common.{ℕ, ◌≡◌, ◌^◌, ◌≤◌, ◌<◌, get_or, take}
use Rattle.string_interner.specs.Spelling.{value}
use Rattle.string_interner.proofs.backend.buffer.leb128.long_number_at.Given as goal

-- at most nine digits so far, all marked, and what they are worth
abbrev pub invariant-loop-i : goal.invariant-loop-i
invariant-loop-i l = record {
  few : l.i ≤ 9;
  marked : (k : ℕ) → k < l.i → 128 ≤ get_or l.bytes k 0;
  number : l.number ≡ value (take l.i l.bytes);
  unit : l.unit ≡ 128 ^ l.i;
}
