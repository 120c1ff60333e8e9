use Rattle.std.proofs.Common.{take}
use Rattle.std.specs.Io.KnownBytes.{Appends}
use Rattle.std.specs.List.{join_with_byte}
use Rattle.string_interner.specs.Extend.{texts_of}
use Rattle.string_column.specs.Column.{rows_of}
use Rattle.dictcol.proofs.json_form.file.write_joined.Given as goal

-- the rows so far were written
abbrev pub invariant-loop-row : goal.invariant-loop-row
invariant-loop-row g l =
    Appends (g.W.Write.contents l.initial.output) (g.W.Write.contents l.output) (join_with_byte 10 (rows_of (texts_of l.texts) (take l.row l.codes.items)))
