use Rattle.std.proofs.Common.{◌≡◌, ◌∷◌, map}
use Rattle.resp_core.specs.View.{view_pair}
use Rattle.cluster_slots.specs.Lists.{all_some}
use Rattle.redis_combiners.specs.Entries.{joined}
use Rattle.redis_combiners.specs.Totals.{reply_pair}
use Rattle.redis_combiners.proofs.Ahead.{before}
use Rattle.redis_combiners.proofs.maps.to_entries.Given as goal

abbrev pub invariant-loop-next : goal.invariant-loop-next
invariant-loop-next l = (goal.iterator-loop-next).can_next l.next-iterator
    × (goal.iterator-loop-next).is_finite l.next-iterator
    × (before (map view_pair l.list.items) (all_some (map reply_pair (joined (l.total ∷ l.next-iterator.rest.items)))) ≡ all_some (map reply_pair (joined l.fn.totals.items)))
