use Rattle.std.proofs.Common.{arith, rules}
use Rattle.std.proofs.lemmas.Grind.{common_steps}
use Rattle.string_interner.specs.SeededHash.{last_block}
use Rattle.string_interner.proofs.hash.seeded.last_block.Goals as goal

pub returns : goal.returns
unfolding last_block
returns c = first_of (search rules, grind (arith, common_steps))
