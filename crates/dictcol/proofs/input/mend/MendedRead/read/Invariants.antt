use Rattle.std.proofs.Common.{◌≡◌}
use Rattle.std.specs.Io.KnownBytes.{Keeps}
use Rattle.dictcol.specs.Mended.{mended_left}
use Rattle.dictcol.proofs.input.mend.MendedRead.read.Given as goal

-- nothing was given so far
abbrev pub invariant-loop : goal.invariant-loop
invariant-loop g l = record {
  kept : Keeps (mended_left l.fn.self) (mended_left l.self);
  same : l.self.mending ≡ l.fn.self.mending;
}
