use Rattle.std.proofs.Common.{◌≡◌, ℕ, List, map, length}
use Rattle.resp_core.specs.View.{view}
use Rattle.redis_combiners.specs.KeyNumbers.{pairs_among}
use Rattle.redis_combiners.proofs.ByKey.{total_with}
use Rattle.redis_combiners.proofs.maps.add_pairs.Given as goal

-- the totals so far with the pairs that are left are those at the start with all pairs
abbrev pub invariant-loop-key : goal.invariant-loop-key
invariant-loop-key l = (q : List ℕ)
    → total_with q l.totals.items (pairs_among (map view l.rest.rest.items))
    ≡ total_with q l.fn.totals.items (pairs_among (map view l.fn.items.items))

abbrev pub decreases-loop-key : goal.decreases-loop-key
decreases-loop-key l = length l.rest.rest.items
