use Rattle.std.proofs.Common.{take}
use Rattle.std.specs.Io.KnownBytes.{Appends}
use Rattle.dictcol.specs.Get.{numbers_text}
use Rattle.dictcol.proofs.plain.find.write_numbers.Given as goal

-- the numbers so far were written
abbrev pub invariant-loop-found : goal.invariant-loop-found
invariant-loop-found g l = Appends (g.W.Write.contents l.initial.output) (g.W.Write.contents l.output) (numbers_text (take l.found-index l.numbers))
