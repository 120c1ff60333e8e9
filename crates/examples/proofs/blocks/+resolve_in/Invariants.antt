use Rattle.std.proofs.Common.{length}
use Rattle.examples.proofs.blocks.+resolve_in.Given as goal

abbrev pub decreases-resolve_in : goal.decreases-resolve_in
decreases-resolve_in g l = length l.outer.now
