use Rattle.std.proofs.Common.{◌≡◌, List, length}
use Rattle.std.specs.List.{AllWithin}
use Rattle.string_interner.specs.Text.{Text}
use Rattle.dictcol.specs.Shards.{HasSharded, WaitsAtMost}
use Rattle.dictcol.proofs.shards.Shards.write_above.Given as goal

-- the first outputs got what waited
abbrev pub invariant-loop-shard : goal.invariant-loop-shard
invariant-loop-shard g l =
    let has = HasSharded g.H.TextHasher.code g.W.Write.contents in
    record {
      same : (lines : List Text) → has l.fn.self lines → has l.self lines;
      few : AllWithin (WaitsAtMost l.fn.most) l.self.shards.items 0 l.shard;
      long : length l.self.shards.items ≡ l.shard-end;
    }
