use Rattle.std.proofs.Common.{◌≡◌, ◌+◌, ◌≤◌, ◌↔◌, map, take, length}
use Rattle.resp_core.specs.View.{view_pair}
use Rattle.resp_core.specs.Reply.{pairs_of}
use Rattle.resp_core.specs.Freeing.{steps_in_pairs}
use Rattle.resp_core.specs.Waiting.{AreSame, steps_waiting}
use Rattle.resp_core.proofs.value.comparing.add_pairs.Given as goal

abbrev pub invariant-loop-x : goal.invariant-loop-x
invariant-loop-x l =
    let n = length l.yielded in
    (goal.iterator-loop-x).can_next l.x-iterator
    × (goal.iterator-loop-x).is_finite l.x-iterator
    × (AreSame l.waiting.items ↔ (AreSame l.initial.waiting.items × (map view_pair (take n l.xs) ≡ map view_pair (take n l.ys))))
    × (steps_waiting l.waiting.items ≤ steps_waiting l.initial.waiting.items + steps_in_pairs (pairs_of (map view_pair (take n l.xs))))
