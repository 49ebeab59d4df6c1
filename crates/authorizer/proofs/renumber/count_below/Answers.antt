use Rattle.std.proofs.Common.{nat_lt, sym, rules}
use Rattle.std.proofs.lemmas.List.Sorted.{IsPartitionPoint-from_clause, IsPartitionedBy-ltb}
use Rattle.authorizer.proofs.Renumbering.{count-point}
use Rattle.authorizer.proofs.renumber.count_below.Goals as goal

pub returns-clause-below : goal.returns-clause-below
returns-clause-below c =
    let parted = IsPartitionedBy-ltb (λ x. x) c.args.numbers.now c.args.number c.requires.ascending in
    let point = IsPartitionPoint-from_clause (λ n. nat_lt n c.args.number) _ _ c.partition_point.ensures.partitioned parted (λ a r q k. search rules) in
    sym (count-point (λ n. nat_lt n c.args.number) c.args.numbers.now c.partition_point.result c.partition_point.ensures.bound point.0 point.1)
