use Rattle.std.proofs.Common.{◌≡◌, ◌+◌, ◌≤◌, ◌++◌, vec_len, vec_capacity}
use Rattle.string_interner.specs.Spelling.{spell, digits}
use Rattle.string_interner.proofs.backend.buffer.leb128.push_number.Given as goal

-- what was written and what is left to spell are all, and there is room for the rest
abbrev pub invariant-loop-number : goal.invariant-loop-number
invariant-loop-number l = record {
  spelled : l.buffer.items ++ spell l.number ≡ l.fn.buffer.items ++ spell l.fn.number;
  len : vec_len l.buffer + digits l.number ≡ vec_len l.fn.buffer + digits l.fn.number;
  room : vec_len l.buffer + digits l.number ≤ vec_capacity l.buffer;
  capacity : vec_capacity l.buffer ≡ vec_capacity l.fn.buffer;
}

abbrev pub decreases-loop-number : goal.decreases-loop-number
decreases-loop-number l = l.number
