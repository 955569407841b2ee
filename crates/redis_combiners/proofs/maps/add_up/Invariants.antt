use Rattle.std.proofs.Common.{◌≡◌, ℕ, List, map}
use Rattle.std.specs.Prelude.{option_map}
use Rattle.resp_core.specs.View.{view}
use Rattle.redis_combiners.specs.KeyNumbers.{all_pairs}
use Rattle.redis_combiners.specs.Totals.{total_at}
use Rattle.redis_combiners.proofs.ByKey.{total_with}
use Rattle.redis_combiners.proofs.maps.add_up.Given as goal

-- the totals so far with the pairs that are left have the totals of all pairs
abbrev pub invariant-loop-value : goal.invariant-loop-value
invariant-loop-value l = (goal.iterator-loop-value).can_next l.value-iterator
    × (goal.iterator-loop-value).is_finite l.value-iterator
    × ((q : List ℕ) → total_with q l.totals.items (all_pairs (map view l.value-iterator.rest.items)) ≡ option_map (total_at q) (all_pairs (map view l.fn.values.items)))
