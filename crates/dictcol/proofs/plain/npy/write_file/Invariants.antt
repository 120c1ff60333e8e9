use Rattle.std.proofs.Common.{◌++◌, take}
use Rattle.std.specs.List.{flat_map}
use Rattle.dictcol.specs.Plain.{code_bytes}
use Rattle.dictcol.specs.Writes.{Puts}
use Rattle.dictcol.proofs.plain.npy.write_file.Given as goal

-- the header, the earlier numbers, and the others so far were appended
abbrev pub invariant-loop-number : goal.invariant-loop-number
invariant-loop-number g l =
    Puts (g.W.Write.contents l.fn.output) l.fn.block (g.W.Write.contents l.output) l.block ((l.header ++ l.earlier) ++ flat_map code_bytes (take l.number-index l.numbers))
