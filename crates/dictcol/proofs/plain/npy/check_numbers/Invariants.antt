use Rattle.std.proofs.Common.{length}
use Rattle.dictcol.proofs.PlainColumns.{AreNumbersTo}
use Rattle.dictcol.proofs.plain.npy.check_numbers.Given as goal

-- the numbers so far are below the limit
abbrev pub invariant-numbers : goal.invariant-numbers
invariant-numbers l = AreNumbersTo l.limit l.bytes l.rest

abbrev pub decreases-numbers : goal.decreases-numbers
decreases-numbers l = length l.rest
