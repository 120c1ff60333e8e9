use Rattle.std.proofs.Common.{◌<◌, length}
use Rattle.std.specs.Io.KnownBytes.{Consumes}
use Rattle.dictcol.proofs.input.whole.read_whole.Given as goal

-- so much was read, and the block has room
abbrev pub invariant-loop : goal.invariant-loop
invariant-loop g l = record {
  read : Consumes (g.R.Read.remaining l.fn.input) (g.R.Read.remaining l.input) l.bytes.items;
  room : 0 < length l.block.items;
}
