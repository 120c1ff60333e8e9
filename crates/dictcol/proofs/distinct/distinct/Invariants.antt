use Rattle.std.proofs.Common.{◌≡◌, false}
use Rattle.dictcol.specs.Blocks.{held, HasRead}
use Rattle.dictcol.specs.Distinct.{HasMet}
use Rattle.dictcol.specs.Lines.{has_newline}
use Rattle.dictcol.proofs.HasMet.{WroteFirst}
use Rattle.dictcol.proofs.distinct.distinct.Given as goal

-- so much was read, no newline is held, and the first distinct lines were written
abbrev pub invariant-loop : goal.invariant-loop
invariant-loop g l = record {
  read : HasRead HasMet (g.R.Read.remaining l.fn.input) (g.R.Read.remaining l.input) l.lines (held l.block);
  rest : has_newline (held l.block) ≡ false;
  first : WroteFirst (g.R.Read.remaining l.fn.input) (g.W.Write.contents l.fn.output) (g.W.Write.contents l.output) l.lines.written;
}
