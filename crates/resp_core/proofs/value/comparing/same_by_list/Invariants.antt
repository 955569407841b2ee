use Rattle.std.proofs.Common.{◌≡◌, ◌↔◌}
use Rattle.resp_core.specs.View.{view}
use Rattle.resp_core.specs.Waiting.{AreSame, steps_waiting}
use Rattle.resp_core.proofs.value.comparing.same_by_list.Given as goal

abbrev pub invariant-loop-left : goal.invariant-loop-left
invariant-loop-left l = AreSame l.waiting.items ↔ (view l.a ≡ view l.b)

abbrev pub decreases-loop-left : goal.decreases-loop-left
decreases-loop-left l = steps_waiting l.waiting.items
