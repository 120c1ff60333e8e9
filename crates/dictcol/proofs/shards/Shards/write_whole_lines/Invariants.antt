use Rattle.std.proofs.Common.{◌≡◌, false}
use Rattle.dictcol.specs.Blocks.{held, HasRead}
use Rattle.dictcol.specs.Lines.{has_newline}
use Rattle.dictcol.specs.Shards.{HasSharded}
use Rattle.dictcol.proofs.shards.Shards.write_whole_lines.Given as goal

-- so much was read, and no newline is held
abbrev pub invariant-loop : goal.invariant-loop
invariant-loop g l = record {
  read : HasRead (HasSharded g.H.TextHasher.code g.W.Write.contents) (g.R.Read.remaining l.fn.input) (g.R.Read.remaining l.input) l.self (held l.block);
  rest : has_newline (held l.block) ≡ false;
}
