use Rattle.std.proofs.Common.{◌≡◌, ◌++◌, List, map}
use Rattle.std.specs.List.{flat_map}
use Rattle.cluster_map.specs.EachOnce.{each_once}
use Rattle.cluster_map.specs.SlotNodes.{SlotNodes, nodes_in}
use Rattle.cluster_map.specs.RangeMap.{value_of}
use Rattle.cluster_map.proofs.slot_map.SlotMap.addresses_for_all_nodes.Given as goal

-- the members are the nodes of the ranges so far
abbrev pub invariant-loop-addrs : goal.invariant-loop-addrs
invariant-loop-addrs l =
    (goal.iterator-loop-addrs).can_next l.addrs-iterator ×
    (goal.iterator-loop-addrs).is_finite l.addrs-iterator ×
    ((done : List SlotNodes) × (done ++ l.addrs-iterator ≡ map value_of l.self) × (l.seen ≡ each_once (flat_map nodes_in done)))
