use Rattle.std.proofs.Common.{◌≡◌}
use Rattle.cluster_map.specs.SlotNodes.{nodes_in}
use Rattle.cluster_map.specs.Targets.{left_in}
use Rattle.cluster_map.specs.Inner.NodeSets.{after_addresses}
use Rattle.cluster_map.proofs.slot_map.node_set.source.write_range.Given as goal

-- with the nodes that are left the hash is the one with all of them
abbrev pub invariant-loop-node : goal.invariant-loop-node
invariant-loop-node l =
    (goal.iterator-loop-node).can_next l.node-iterator ×
    (goal.iterator-loop-node).is_finite l.node-iterator ×
    (after_addresses l.state (left_in l.node-iterator) ≡ after_addresses l.fn.state (nodes_in l.addrs))
