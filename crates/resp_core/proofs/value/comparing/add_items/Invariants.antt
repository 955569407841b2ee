use Rattle.std.proofs.Common.{◌≡◌, ◌+◌, ◌≤◌, ◌↔◌, map, take, length}
use Rattle.resp_core.specs.View.{view}
use Rattle.resp_core.specs.Reply.{replies_of}
use Rattle.resp_core.specs.Freeing.{steps_in_items}
use Rattle.resp_core.specs.Waiting.{AreSame, steps_waiting}
use Rattle.resp_core.proofs.value.comparing.add_items.Given as goal

abbrev pub invariant-loop-x : goal.invariant-loop-x
invariant-loop-x l =
    let n = length l.yielded in
    (goal.iterator-loop-x).can_next l.x-iterator
    × (goal.iterator-loop-x).is_finite l.x-iterator
    × (AreSame l.waiting.items ↔ (AreSame l.initial.waiting.items × (map view (take n l.xs) ≡ map view (take n l.ys))))
    × (steps_waiting l.waiting.items ≤ steps_waiting l.initial.waiting.items + steps_in_items (replies_of (map view (take n l.xs))))
