use Rattle.std.proofs.Common.{◌≡◌, map}
use Rattle.std.specs.List.{flat_map}
use Rattle.cluster_map.specs.RangeMap.{value_of}
use Rattle.cluster_map.specs.SlotNodes.{nodes_in}
use Rattle.cluster_map.specs.Inner.NodeSets.{after_addresses}
use Rattle.cluster_map.proofs.slot_map.node_set.source.write_ranges.Given as goal

-- with the ranges that are left the hash is the one with all of them
abbrev pub invariant-loop-addrs : goal.invariant-loop-addrs
invariant-loop-addrs l =
    (goal.iterator-loop-addrs).can_next l.addrs-iterator ×
    (goal.iterator-loop-addrs).is_finite l.addrs-iterator ×
    (after_addresses l.state (flat_map nodes_in l.addrs-iterator) ≡ after_addresses l.fn.state (flat_map nodes_in (map value_of l.slots)))
