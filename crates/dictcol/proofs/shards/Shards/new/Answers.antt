use Rattle.std.proofs.Common.{[], refl}
use Rattle.dictcol.proofs.Sharded.{held-all}
use Rattle.dictcol.proofs.shards.Shards.new.Goals as goal

pub returns-clause-none : goal.returns-clause-none
returns-clause-none g c holds = record {
  total_is = refl;
  held_are = λ known. held-all g.W.Write.contents (g.H.TextHasher.code c.args.hasher) c.args.shards.items c.args.order [] c.requires.written.0 c.requires.written.1 (holds known);
}
