use Rattle.std.proofs.Common.{◌≡◌, ◌+◌}
use Rattle.string_interner.specs.Spelling.{digits}
use Rattle.string_interner.proofs.backend.buffer.leb128.digit_count.Given as goal

-- the digits so far and those of what is left are one more than all
abbrev pub invariant-loop-number : goal.invariant-loop-number
invariant-loop-number l = l.count + digits l.number ≡ digits l.fn.number + 1

abbrev pub decreases-loop-number : goal.decreases-loop-number
decreases-loop-number l = l.number
