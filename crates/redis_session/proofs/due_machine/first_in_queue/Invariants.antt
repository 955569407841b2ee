use Rattle.std.proofs.Common.{length}
use Rattle.redis_session.specs.Due.{AreNoted}
use Rattle.redis_session.proofs.due_machine.first_in_queue.Given as goal

abbrev pub invariant-loop-caller : goal.invariant-loop-caller
invariant-loop-caller l = AreNoted l.due l.machine

abbrev pub decreases-loop-caller : goal.decreases-loop-caller
decreases-loop-caller l = length l.due.callers.items
