use Rattle.std.proofs.Common.{◌≡◌, length}
use Rattle.session_core.specs.Order.{trimmed}
use Rattle.session_core.proofs.order.trim.Given as goal

abbrev pub invariant-loop-parts : goal.invariant-loop-parts
invariant-loop-parts l = trimmed l.parts ≡ trimmed l.initial.parts

abbrev pub decreases-loop-parts : goal.decreases-loop-parts
decreases-loop-parts l = length l.parts.parts
