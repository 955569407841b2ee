use Rattle.redis_session.proofs.DoneReplies.{took_but, took_noted}
use Rattle.redis_session.proofs.due_machine.DueMachine.take.Goals as goal

pub note_call-requires : goal.note_call-requires
note_call-requires c = took_but c.args.number c.self.inside.due c.self.inside.machine c.take.new.self c.in_ok-took.took c.in-Some.call c.self.invariant c.in_ok-took.ensures.took c.in-Some.ensures

pub invariant_of-self-in_default : goal.invariant_of-self-in_default
invariant_of-self-in_default c = took_noted c.args.number c.self.inside.due c.self.inside.machine c.take.new.self c.in_ok-took.took c.self.invariant c.in_ok-took.ensures.took c.in_default.ensures
