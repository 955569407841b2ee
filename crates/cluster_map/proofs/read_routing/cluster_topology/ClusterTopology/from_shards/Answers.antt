use Rattle.std.proofs.Common.{◌≡◌, ◌≤◌, ℕ, List, [], ap, ◌∙◌, rules, arith, length, take}
use Rattle.std.proofs.lemmas.Grind.{common_steps}
use Rattle.std.proofs.lemmas.List.{take_all}
use Rattle.cluster_map.specs.RangeMap.{RangeEntry, insert_entries}
use Rattle.cluster_map.specs.Shards.{ShardNodes}
use Rattle.cluster_map.specs.Topology.{place_entries}
use Rattle.cluster_map.specs.Inner.Topology.{AllPlaces}
use Rattle.cluster_map.proofs.Filling.{place_entries-more, all_places, place_below, left_below}
use Rattle.cluster_map.proofs.read_routing.cluster_topology.ClusterTopology.from_shards.Goals as goal

pub loop-place-preserved : goal.loop-place-preserved
loop-place-preserved c = grind (arith, common_steps, place_entries-more)

-- the ranges of all shards are put in, once each shard was gone over
put_all : (ss : List ShardNodes) (n : ℕ) (before entries after : List (RangeEntry ℕ)) → entries ≡ place_entries 0 (take n ss) → length ss ≤ n → before ≡ [] → after ≡ insert_entries before entries → after ≡ insert_entries [] (place_entries 0 ss)
put_all ss n before entries after is past none put =
    put ∙ ap (λ z. insert_entries z entries) none ∙ ap (insert_entries []) (is ∙ ap (place_entries 0) (take_all n ss past))

pub first_places-requires : goal.first_places-requires
first_places-requires c = grind (arith, common_steps, put_all, all_places)

pub invariant_of-result : goal.invariant_of-result
invariant_of-result c =
    let shards = c.args.shards.items in
    let all = put_all shards c.loop-place.place _ _ c.extend.new.self c.loop-place.invariant (search rules) c.new-ranges.ensures c.in_ok-extend.ensures.put in
    let places : AllPlaces (length shards) c.extend.new.self = rw all (all_places shards) in
    (c.in_ok-order.ensures, rw c.in_ok-order.ensures (left_below (length shards) c.extend.new.self places), place_below (length shards) c.extend.new.self places)
