use Rattle.std.proofs.Common.{◌≡◌}
use Rattle.std.specs.List.{list_any}
use Rattle.dictcol.specs.Lines.{has_newline}
use Rattle.dictcol.proofs.json_form.file.check_texts.Given as goal

-- a newline is only in the texts ahead
abbrev pub invariant-loop-text : goal.invariant-loop-text
invariant-loop-text g l = list_any has_newline l.text-iterator.ahead ≡ list_any has_newline l.dictionary.texts
