use Rattle.std.proofs.Common.{◌≡◌, ◌≤◌, ◌+◌, ◌++◌, map, length, vec_len, vec_capacity}
use Rattle.serde_json.specs.Data.{string}
use Rattle.serde_json.specs.View.{view}
use Rattle.string_interner.proofs.interner.StringInterner.to_json.Given as goal

-- the elements so far, and those of the texts ahead, are all, and there is room for them
abbrev pub invariant-loop-text : goal.invariant-loop-text
invariant-loop-text g l = record {
  so_far : map view l.elements.items ++ map string l.text-iterator.ahead ≡ map string l.fn.self.texts;
  room : vec_len l.elements + length l.text-iterator.ahead ≤ vec_capacity l.elements;
}
