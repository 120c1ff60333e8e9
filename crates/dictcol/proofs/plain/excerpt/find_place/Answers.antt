use Rattle.std.proofs.Common.{rules, ltb}
use Rattle.std.proofs.lemmas.List.Sorted.{IsPartitionPoint-from_clause, IsPartitionedBy-ltb}
use Rattle.dictcol.proofs.Excerpt.{numbers-rise, place-found}
use Rattle.dictcol.proofs.plain.excerpt.find_place.Goals as goal

pub returns : goal.returns
returns c =
    let parted = IsPartitionedBy-ltb (λ n. n) c.args.numbers.now c.args.number (numbers-rise c.args.numbers.now c.requires.ascend) in
    let point = IsPartitionPoint-from_clause (λ n. ltb n c.args.number) _ _ c.partition_point.ensures.partitioned parted (λ a r q k. search rules) in
    place-found c.args.numbers.now c.args.number c.partition_point.result c.requires.ascend c.requires.listed point
