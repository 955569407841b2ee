use Rattle.std.proofs.Common.{◌≡◌, map, take}
use Rattle.cluster_map.specs.RangeMap.{end_of}
use Rattle.cluster_map.proofs.slot_range_map.write_ends.Given as goal

-- the ends so far are written
abbrev pub invariant-loop-place : goal.invariant-loop-place
invariant-loop-place g l = take l.place l.ends ≡ take l.place (map end_of l.ranges)
