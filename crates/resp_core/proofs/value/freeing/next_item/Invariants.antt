use Rattle.std.proofs.Common.{◌≤◌, length, map}
use Rattle.resp_core.specs.View.{view}
use Rattle.resp_core.specs.Reply.{array, replies_of}
use Rattle.resp_core.specs.Freeing.{steps_above}
use Rattle.resp_core.proofs.value.freeing.next_item.Given as goal

abbrev pub invariant-loop-last : goal.invariant-loop-last
invariant-loop-last l = steps_above (array (replies_of (map view l.items.items))) ≤ steps_above (array (replies_of (map view l.initial.items.items)))

abbrev pub decreases-loop-last : goal.decreases-loop-last
decreases-loop-last l = length l.items.items
