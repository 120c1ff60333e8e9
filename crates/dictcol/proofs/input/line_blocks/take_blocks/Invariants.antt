use Rattle.std.proofs.Common.{◌≡◌, ◌<◌, length, take}
use Rattle.std.specs.List.{slice_split}
use Rattle.dictcol.specs.Lines.{is_newline}
use Rattle.dictcol.proofs.Waits.{Waits}
use Rattle.dictcol.proofs.input.line_blocks.take_blocks.Given as goal

-- the lines so far were taken, but for those that wait in the front of the block, and those ahead are the others
abbrev pub invariant-loop-line : goal.invariant-loop-line
invariant-loop-line g l = record {
  waits : Waits g.T.Taker.has_taken l.fn.taker l.taker (take l.len l.block) l.line-iterator (slice_split is_newline l.text);
  room : (l.len < 256) × (length l.block ≡ 256);
  same : g.T.Taker.kept l.taker ≡ g.T.Taker.kept l.fn.taker;
}
