use Rattle.std.proofs.Common.{◌≡◌, length}
use Rattle.handles.proofs.any.guessed.touch_block.Given as goal

-- the block has as many texts as before
abbrev pub invariant-loop-at : goal.invariant-loop-at
invariant-loop-at g l = length l.block ≡ 32
