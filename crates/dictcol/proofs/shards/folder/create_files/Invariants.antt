use Rattle.std.proofs.Common.{◌≡◌, length}
use Rattle.std.specs.List.{All}
use Rattle.dictcol.specs.Shards.{IsWritten}
use Rattle.dictcol.proofs.shards.folder.create_files.Given as goal

abbrev pub invariant-loop-number : goal.invariant-loop-number
invariant-loop-number l = record {
  count : length l.shards.items ≡ l.number-counter;
  written : All IsWritten l.shards.items;
}
