use Rattle.std.proofs.Common.{◌≡◌, ◌≤◌, ◌+◌, drop, length}
use Rattle.cluster_map.proofs.Places.{below}
use Rattle.cluster_map.proofs.slot_range_map.count_below.Given as goal

-- those so far and those of the rest are all
abbrev pub invariant-loop-other : goal.invariant-loop-other
invariant-loop-other l = record {
  counted : l.below + below l.end (drop l.other-index l.ends) ≡ below l.end l.ends;
  most : below l.end l.ends ≤ length l.ends;
}
