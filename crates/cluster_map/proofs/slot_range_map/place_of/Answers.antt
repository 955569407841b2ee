use Rattle.std.proofs.Common.{nat_lt, rules}
use Rattle.std.proofs.lemmas.List.Sorted.{IsPartitionPoint-from_clause, IsPartitionedBy-ltb}
use Rattle.cluster_map.proofs.Places.{below_point}
use Rattle.cluster_map.proofs.slot_range_map.place_of.Goals as goal

pub returns-clause-place : goal.returns-clause-place
returns-clause-place c =
    let parted = IsPartitionedBy-ltb (λ e. e) c.args.ends.now c.args.end c.requires in
    below_point c.args.end c.args.ends.now _ c.partition_point.ensures.bound
    (IsPartitionPoint-from_clause (λ e. nat_lt e c.args.end) _ _ c.partition_point.ensures.partitioned parted (λ a r q k. search rules))
