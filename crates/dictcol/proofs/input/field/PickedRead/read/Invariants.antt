use Rattle.std.proofs.Common.{◌≡◌, length}
use Rattle.std.specs.Io.KnownBytes.{Keeps}
use Rattle.dictcol.specs.Field.{picked_left}
use Rattle.dictcol.proofs.input.field.PickedRead.read.Given as goal

-- nothing was given so far
abbrev pub invariant-loop : goal.invariant-loop
invariant-loop g l = record {
  kept : Keeps (picked_left l.fn.self.field l.fn.self.line (g.R.Read.remaining l.fn.self.input)) (picked_left l.self.field l.self.line (g.R.Read.remaining l.self.input));
  same : l.self.field ≡ l.fn.self.field;
  long : length l.buf ≡ length l.fn.buf;
}
