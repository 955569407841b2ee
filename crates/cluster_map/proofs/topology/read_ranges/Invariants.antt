use Rattle.std.proofs.Common.{◌≡◌, ◌++◌, drop, map}
use Rattle.std.specs.List.{filter_map}
use Rattle.resp_core.specs.View.{view}
use Rattle.cluster_map.specs.SlotsReply.{range_in, leading_arrays}
use Rattle.cluster_map.proofs.topology.read_ranges.Given as goal

-- the ranges found, and those of the rest, are those of all items
abbrev pub invariant-loop-item : goal.invariant-loop-item
invariant-loop-item l =
    l.ranges.items ++ filter_map (range_in l.answering) (leading_arrays (map view (drop l.item-index l.items)))
    ≡ filter_map (range_in l.answering) (leading_arrays (map view l.items))
