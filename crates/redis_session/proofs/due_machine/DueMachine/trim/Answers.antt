use Rattle.redis_session.proofs.DoneReplies.{noted_trimmed}
use Rattle.redis_session.proofs.due_machine.DueMachine.trim.Goals as goal

pub invariant_of-self-2 : goal.invariant_of-self-2
invariant_of-self-2 c = noted_trimmed c.self.inside.due c.note_trimmed.new.self c.self.inside.machine c.trim.new.self c.self.invariant (c.trim.ensures.trimmed c.if-not-trim.false) c.note_trimmed.ensures.first c.note_trimmed.ensures.noted
