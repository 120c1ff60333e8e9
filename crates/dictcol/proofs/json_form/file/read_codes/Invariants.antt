use Rattle.std.proofs.Common.{◌≡◌, ◌<◌, ◌++◌, All, drop, length, option_map}
use Rattle.serde_json.specs.View.{items_view}
use Rattle.string_column.specs.Column.{rows_of}
use Rattle.dictcol.specs.File.{indexed_texts}
use Rattle.dictcol.proofs.json_form.file.read_codes.Given as goal

-- the rows of the codes so far and those of the numbers ahead are all
abbrev pub invariant-loop-number : goal.invariant-loop-number
invariant-loop-number g l = record {
  so_far : indexed_texts l.dictionary.texts (items_view l.numbers)
      ≡ option_map (λ rest. rows_of l.dictionary.texts l.codes.items ++ rest) (indexed_texts l.dictionary.texts (items_view (drop l.number-index l.numbers)));
  within : All (λ code. code < length l.dictionary.texts) l.codes.items;
}
