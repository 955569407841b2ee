use Rattle.std.proofs.Common.{◌≡◌, ◌++◌, List, map}
use Rattle.cluster_map.specs.EachOnce.{each_once}
use Rattle.cluster_map.specs.SlotNodes.{SlotNodes}
use Rattle.cluster_map.specs.RangeMap.{value_of}
use Rattle.cluster_map.specs.Targets.{addresses_behind}
use Rattle.cluster_map.proofs.RangePrimaries.{range_primary}
use Rattle.cluster_map.proofs.slot_map.primaries.primaries_of_few.Given as goal

-- the nodes found are the primaries of the ranges so far
abbrev pub invariant-loop-addrs : goal.invariant-loop-addrs
invariant-loop-addrs l =
    (goal.iterator-loop-addrs).can_next l.addrs-iterator ×
    (goal.iterator-loop-addrs).is_finite l.addrs-iterator ×
    ((done : List SlotNodes) × (done ++ l.addrs-iterator ≡ map value_of l.ranges)
    × (addresses_behind l.found.items ≡ each_once (map range_primary done)))
