use Rattle.std.proofs.Common.{◌≡◌, ◌<◌, ◌^◌, ◌++◌, All, List, ℕ, map, take, drop, nat_lt}
use Rattle.serde_json.specs.Data.{array}
use Rattle.serde_json.specs.View.{items_of}
use Rattle.serde_json.specs.Written.{items_text, compact_text}
use Rattle.string_interner.specs.Json.{json_of_number}
use Rattle.dictcol.specs.Writes.{Puts}
use Rattle.dictcol.proofs.json_form.format.write_codes.Given as goal

-- the codes so far were appended, and those ahead are the others
abbrev pub invariant-loop-row : goal.invariant-loop-row
invariant-loop-row g l = record {
  so_far : (front : List ℕ) × (front ++ items_text (nat_lt 0 l.row) (items_of (map json_of_number (drop l.row l.codes.items))) ≡ compact_text (array (items_of (map json_of_number l.codes.items))))
      × Puts (g.W.Write.contents l.fn.output) l.fn.block (g.W.Write.contents l.output) l.block front;
  small : All (λ n. n < 2 ^ 64) (take l.row l.codes.items);
}
