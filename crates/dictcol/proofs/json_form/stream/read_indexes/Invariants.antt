use Rattle.std.proofs.Common.{◌≡◌, ◌<◌, ◌++◌, List, All, map, length}
use Rattle.json.specs.Token.{number}
use Rattle.string_interner.specs.Text.{Text}
use Rattle.dictcol.specs.StreamTokens.{AreIndexes}
use Rattle.dictcol.proofs.json_form.stream.read_indexes.Given as goal

-- the indexes so far were read, and each is below the count
abbrev pub invariant-indexes : goal.invariant-indexes
invariant-indexes l = record {
  so_far : (numbers : List Text) × (l.initial.reader ≡ map number numbers ++ l.reader) × AreIndexes numbers l.codes.items;
  within : All (λ index. index < l.count) l.codes.items;
}

abbrev pub decreases-indexes : goal.decreases-indexes
decreases-indexes l = length l.reader
