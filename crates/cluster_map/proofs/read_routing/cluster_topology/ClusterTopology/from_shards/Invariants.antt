use Rattle.std.proofs.Common.{◌≡◌, take}
use Rattle.cluster_map.specs.Topology.{place_entries}
use Rattle.cluster_map.proofs.read_routing.cluster_topology.ClusterTopology.from_shards.Given as goal

-- the entries are those of the shards so far
abbrev pub invariant-loop-place : goal.invariant-loop-place
invariant-loop-place l = l.entries.items ≡ place_entries 0 (take l.place l.shards.items)
