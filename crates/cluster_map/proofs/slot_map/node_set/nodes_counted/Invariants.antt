use Rattle.std.proofs.Common.{◌≡◌, take}
use Rattle.cluster_map.specs.Targets.{addresses_behind}
use Rattle.cluster_map.specs.Inner.NodeSets.{addresses_counted}
use Rattle.cluster_map.proofs.slot_map.node_set.nodes_counted.Given as goal

-- the nodes so far
abbrev pub invariant-loop-counted : goal.invariant-loop-counted
invariant-loop-counted l =
    addresses_behind l.nodes.items ≡ addresses_counted (take l.counted-index l.counted_nodes.keys)
