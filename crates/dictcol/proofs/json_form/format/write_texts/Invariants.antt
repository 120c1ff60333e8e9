use Rattle.std.proofs.Common.{◌≡◌, ◌++◌, List, ℕ, map}
use Rattle.serde_json.specs.Data.{string}
use Rattle.serde_json.specs.View.{items_of}
use Rattle.serde_json.specs.Written.{items_text, compact_text}
use Rattle.string_interner.specs.Json.{json_of_texts}
use Rattle.dictcol.specs.Writes.{Puts}
use Rattle.dictcol.proofs.json_form.format.write_texts.Given as goal

-- the texts so far were appended, and those ahead are the others
abbrev pub invariant-loop-text : goal.invariant-loop-text
invariant-loop-text g l =
    (front : List ℕ) × (front ++ items_text l.is_further (items_of (map string l.text-iterator.ahead)) ≡ compact_text (json_of_texts l.texts.texts))
    × Puts (g.W.Write.contents l.fn.output) l.fn.block (g.W.Write.contents l.output) l.block front
