use Rattle.std.proofs.Common.{◌≡◌, ◌<◌, ◌++◌, List, All, map}
use Rattle.cluster_map.specs.SlotNodes.{SlotNodes}
use Rattle.cluster_map.specs.RangeMap.{RangeEntry, end_of}
use Rattle.cluster_map.specs.Topology.{shards_of}
use Rattle.cluster_map.specs.Inner.Topology.{primary_of}
use Rattle.cluster_map.proofs.slot_map.grouping.shards_of.Given as goal

-- the shards are those of the ranges so far, whose ends fit in 16 bits, and the set has their
-- primaries
abbrev pub invariant-loop-start : goal.invariant-loop-start
invariant-loop-start l =
    (goal.iterator-loop-start).can_next l.start-iterator ×
    (goal.iterator-loop-start).is_finite l.start-iterator ×
    (l.seen ≡ map primary_of l.shards.items) ×
    ((done : List (RangeEntry SlotNodes)) × (done ++ l.start-iterator ≡ l.ranges)
    × (l.shards.items ≡ shards_of done) × All (λ e. end_of e < 65536) done)
