-- What an iterator over shards has still to give.
use Rattle.std.specs.Prelude.{List}
use Rattle.cluster_map.specs.Shards.{ShardNodes}
use Rattle.cluster_map.specs.Topology.{at_places}
use Rattle.cluster_map.specs.declared.read_routing.shards.Shards.{Shards}

abbrev pub shards_to_give : Shards → List ShardNodes
shards_to_give it = at_places it.shards.now it.order.now
