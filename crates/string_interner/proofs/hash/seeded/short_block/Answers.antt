use Rattle.std.proofs.Common.{arith, rules}
use Rattle.std.proofs.lemmas.Grind.{common_steps}
use Rattle.string_interner.specs.SeededHash.{last_block}
use Rattle.string_interner.proofs.hash.seeded.short_block.Goals as goal

pub returns-then-len-ge4 : goal.returns-then-len-ge4
unfolding last_block
returns-then-len-ge4 c = first_of (search rules, grind (arith, common_steps))

pub returns-then-len-gt0 : goal.returns-then-len-gt0
unfolding last_block
returns-then-len-gt0 c = first_of (search rules, grind (arith, common_steps))

pub returns-else-len-gt0 : goal.returns-else-len-gt0
unfolding last_block
returns-else-len-gt0 c = first_of (search rules, grind (arith, common_steps))
