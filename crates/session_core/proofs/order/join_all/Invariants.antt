use Rattle.std.proofs.Common.{◌≡◌, take}
use Rattle.session_core.specs.Order.{joined}
use Rattle.session_core.proofs.order.join_all.Given as goal

abbrev pub invariant-loop-part : goal.invariant-loop-part
invariant-loop-part l = l.parts ≡ joined l.call (take l.part l.orders) l.initial.parts
