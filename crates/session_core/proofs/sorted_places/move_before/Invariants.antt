use Rattle.std.proofs.Common.{◌≡◌, ◌++◌, length}
use Rattle.std.specs.VecDeque.{deque_capacity}
use Rattle.session_core.proofs.sorted_places.move_before.Given as goal

abbrev pub invariant-loop-place : goal.invariant-loop-place
invariant-loop-place l = record {
  moved : l.places.items ++ l.others.items ≡ l.initial.places.items ++ l.initial.others.items;
  capacity : deque_capacity l.places ≡ deque_capacity l.initial.places;
  room : deque_capacity l.others ≡ deque_capacity l.initial.others;
}

abbrev pub decreases-loop-place : goal.decreases-loop-place
decreases-loop-place l = length l.places.items
