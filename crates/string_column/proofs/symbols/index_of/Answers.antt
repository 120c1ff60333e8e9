use Rattle.std.proofs.Common.{rules, ltb}
use Rattle.std.proofs.lemmas.List.Sorted.{IsPartitionPoint-from_clause, IsPartitionedBy-ltb}
use Rattle.string_column.proofs.Lemmas.AreNumbered.{ascend-sorted, parted-at}
use Rattle.string_column.proofs.symbols.index_of.Goals as goal

pub returns : goal.returns
returns g c =
    let parted = IsPartitionedBy-ltb g.S.Symbol.number c.args.symbols.now (g.S.Symbol.number c.args.symbol) (ascend-sorted g.S.Symbol.number c.args.symbols.now c.requires.ascend) in
    let point = IsPartitionPoint-from_clause (λ s. ltb (g.S.Symbol.number s) (g.S.Symbol.number c.args.symbol)) _ _ c.partition_point.ensures.partitioned parted (λ a r q k. search rules) in
    parted-at g.S.Symbol.number c.args.symbols.now c.args.symbol c.requires.listed.0 c.partition_point.result c.requires.ascend c.requires.listed.1 point
