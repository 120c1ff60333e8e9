use Rattle.std.proofs.Common.{◌≡◌, ◌++◌, length}
use Rattle.dictcol.specs.Plain.{codes_in}
use Rattle.dictcol.proofs.plain.npy.list_numbers.Given as goal

-- the numbers so far are listed
abbrev pub invariant-numbers : goal.invariant-numbers
invariant-numbers l = codes_in l.bytes ≡ l.numbers.items ++ codes_in l.rest

abbrev pub decreases-numbers : goal.decreases-numbers
decreases-numbers l = length l.rest
