use Rattle.std.proofs.Common.{◌≡◌, ◌≤◌, ◌-◌, length}
use Rattle.session_core.specs.Inner.Tied.{first_parts}
use Rattle.session_core.proofs.order.take_back.Given as goal

abbrev pub invariant-loop-left : goal.invariant-loop-left
invariant-loop-left l = record { within : l.left ≤ l.fn.count; taken : l.parts ≡ first_parts (length l.initial.parts.parts - (l.fn.count - l.left)) l.initial.parts }

abbrev pub decreases-loop-left : goal.decreases-loop-left
decreases-loop-left l = l.left
