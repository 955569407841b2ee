use Rattle.std.proofs.Common.{◌≡◌, length, take, map}
use Rattle.resp_core.specs.View.{view, view_pair}
use Rattle.resp_core.proofs.value.+same.Given as goal

abbrev pub invariant-same_items-loop-x : goal.invariant-same_items-loop-x
invariant-same_items-loop-x l =
    (goal.iterator-same_items-loop-x).can_next l.x-iterator
    × (goal.iterator-same_items-loop-x).is_finite l.x-iterator
    × (map view (take (length l.yielded) l.xs) ≡ map view (take (length l.yielded) l.ys))

abbrev pub invariant-same_pairs-loop-x : goal.invariant-same_pairs-loop-x
invariant-same_pairs-loop-x l =
    (goal.iterator-same_pairs-loop-x).can_next l.x-iterator
    × (goal.iterator-same_pairs-loop-x).is_finite l.x-iterator
    × (map view_pair (take (length l.yielded) l.xs) ≡ map view_pair (take (length l.yielded) l.ys))
