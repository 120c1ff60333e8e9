use Rattle.std.proofs.Common.{◌≡◌, false}
use Rattle.dictcol.specs.Blocks.{held, HasRead}
use Rattle.dictcol.specs.Lines.{has_newline}
use Rattle.dictcol.proofs.input.blocks.read_lines.Given as goal

-- so much was read, no newline is held, and what taking lines leaves is as it was
abbrev pub invariant-loop : goal.invariant-loop
invariant-loop g l = record {
  read : HasRead g.L.Taker.has_taken (g.R.Read.remaining l.fn.input) (g.R.Read.remaining l.input) l.lines (held l.block);
  rest : has_newline (held l.block) ≡ false;
  same : g.L.Taker.kept l.lines ≡ g.L.Taker.kept l.fn.lines;
}
