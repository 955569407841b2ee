use Rattle.std.proofs.Common.{◌≡◌, take}
use Rattle.cluster_map.specs.Targets.{addresses_behind}
use Rattle.cluster_map.specs.Inner.NodeSets.{after_addresses}
use Rattle.cluster_map.proofs.slot_map.node_set.source.write_list.Given as goal

-- the nodes so far are in the hash
abbrev pub invariant-loop-node : goal.invariant-loop-node
invariant-loop-node l = l.state ≡ after_addresses l.fn.state (addresses_behind (take l.node-index l.nodes))
