use Rattle.std.proofs.Common.{◌≡◌, ◌==◌, take}
use Rattle.std.specs.Prelude.{count_by}
use Rattle.dictcol.proofs.input.blocks.count_byte.Given as goal

-- how often it occurs among the bytes so far
abbrev pub invariant-loop-byte : goal.invariant-loop-byte
invariant-loop-byte l = l.count ≡ count_by (λ byte. byte == l.wanted) (take l.byte-index l.bytes)
