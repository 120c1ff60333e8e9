use Rattle.std.proofs.Common.{◌<◌, length, ap, ◌∙◌, arith}
use Rattle.std.proofs.Math.Seq.{map-set_same}
use Rattle.std.proofs.lemmas.List.{length-set}
use Rattle.std.proofs.lemmas.List.Elements.{AllWithin-more_set}
use Rattle.dictcol.specs.Shards.{held_by, WaitsAtMost}
use Rattle.dictcol.proofs.Sharded.{held-kept}
use Rattle.dictcol.proofs.shards.Shards.write_above.Goals as goal

pub loop-shard-preserved : goal.loop-shard-preserved
loop-shard-preserved g c =
    let hold = held_by g.W.Write.contents in
    let items = c.loop-shard.self.shards.items in
    let at = c.loop-shard.shard in
    let old = c.index_mut.result.now in
    let new = c.write_above.new.self in
    let within : at < length items = omega (arith, c.loop-shard.invariant.long, c.loop-shard-test.true) in
    record {
      same = λ lines has.
          let before = c.loop-shard.invariant.same lines has in
          record {
            total_is = before.total_is;
            held_are = λ known.
                let kept = held-kept g.W.Write.contents known old new c.in_ok-write_above.ensures.same in
                rw (map-set_same hold items at new old (kept ∙ ap hold c.index_mut.ensures.value)) (before.held_are known);
          };
      few = AllWithin-more_set items at new within (WaitsAtMost c.args.most) c.loop-shard.invariant.few c.in_ok-write_above.ensures.few;
      long = length-set items at new ∙ c.loop-shard.invariant.long;
    }
