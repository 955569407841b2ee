use Rattle.std.proofs.Common.{◌≡◌, ◌++◌, map, take}
use Rattle.cluster_map.specs.Topology.{place_entry}
use Rattle.cluster_map.proofs.read_routing.cluster_topology.push_ranges.Given as goal

-- the ranges so far are added
abbrev pub invariant-loop-range : goal.invariant-loop-range
invariant-loop-range l = l.entries.items ≡ l.fn.entries.items ++ map (place_entry l.place) (take l.range-index l.shard_ranges)
