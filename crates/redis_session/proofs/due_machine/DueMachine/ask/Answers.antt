use Rattle.redis_session.proofs.DoneReplies.{noted_asked}
use Rattle.std.proofs.Common.{false}
use Rattle.redis_session.proofs.due_machine.DueMachine.ask.Goals as goal

pub invariant_of-self : goal.invariant_of-self
invariant_of-self c = noted_asked c.self.inside.due c.self.inside.machine c.ask.new.self false c.args.number c.args.call c.args.part c.ask.result c.self.invariant c.ask.ensures.asked c.ask.ensures.not c.ask.ensures.err

pub returns-clause-why : goal.returns-clause-why
returns-clause-why c = rw (← c.self.view_is) c.ask.ensures.why
