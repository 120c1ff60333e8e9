use Rattle.std.proofs.Common.{◌≡◌, ◌++◌, false, map, length}
use Rattle.std.specs.List.{list_any}
use Rattle.json.specs.Token.{string}
use Rattle.dictcol.specs.Lines.{has_newline}
use Rattle.dictcol.proofs.json_form.stream.read_texts.Given as goal

-- the texts so far were read, and none has a newline
abbrev pub invariant-texts : goal.invariant-texts
invariant-texts g l = record {
  so_far : map string l.initial.dictionary.texts ++ l.initial.reader ≡ map string l.dictionary.texts ++ l.reader;
  plain : list_any has_newline l.dictionary.texts ≡ false;
}

abbrev pub decreases-texts : goal.decreases-texts
decreases-texts g l = length l.reader
