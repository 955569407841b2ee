use Rattle.std.proofs.Common.{◌≡◌, ◌-◌, ◌^◌, map, take, min}
use Rattle.std.specs.Prelude.{sum_by}
use Rattle.resp_core.specs.View.{view}
use Rattle.redis_combiners.proofs.TotalOrders.{item_pairs}
use Rattle.redis_combiners.proofs.maps.pair_count.Given as goal

-- the pairs of the replies so far are counted
abbrev pub invariant-loop-value : goal.invariant-loop-value
invariant-loop-value l = l.count ≡ min (sum_by item_pairs (map view (take l.value-index l.values))) (2 ^ 64 - 1)
