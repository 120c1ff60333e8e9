use Rattle.std.proofs.Common.{◌≡◌, ◌++◌, [], List}
use Rattle.string_interner.specs.Text.{Text}
use Rattle.dictcol.specs.Lines.{text_of_ended}
use Rattle.dictcol.specs.Writes.{Puts}
use Rattle.dictcol.proofs.plain.dictionary.write_file.Given as goal

-- some texts were appended, and those ahead are the others
abbrev pub invariant-loop-text : goal.invariant-loop-text
invariant-loop-text g l =
    (done : List Text) × (l.texts.texts ≡ done ++ l.text-iterator.ahead)
    × Puts (g.W.Write.contents l.fn.output) l.fn.block (g.W.Write.contents l.output) l.block (text_of_ended done [])
