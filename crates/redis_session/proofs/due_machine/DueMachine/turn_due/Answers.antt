use Rattle.redis_session.proofs.DoneReplies.{noted_turned}
use Rattle.redis_session.proofs.due_machine.DueMachine.turn_due.Goals as goal

pub invariant_of-self : goal.invariant_of-self
invariant_of-self c = noted_turned c.self.inside.due c.turn.new.self c.self.inside.machine c.self.invariant c.turn.ensures.noted c.turn.ensures.first
