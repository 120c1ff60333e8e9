use Rattle.std.proofs.Common.{◌≡◌, ◌≤◌, ◌+◌, ◌++◌, length, vec_len, vec_capacity}
use Rattle.string_interner.specs.Extend.{texts_of}
use Rattle.dictcol.proofs.json_form.file.list_texts.Given as goal

-- the texts so far and those ahead are the dictionary, and there is room for them
abbrev pub invariant-loop-text : goal.invariant-loop-text
invariant-loop-text l = record {
  so_far : texts_of l.texts.items ++ l.text-iterator.ahead ≡ l.dictionary.texts;
  room : vec_len l.texts + length l.text-iterator.ahead ≤ vec_capacity l.texts;
}
