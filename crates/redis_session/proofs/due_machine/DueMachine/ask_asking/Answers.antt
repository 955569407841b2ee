use Rattle.redis_session.proofs.DoneReplies.{noted_asked}
use Rattle.std.proofs.Common.{true}
use Rattle.redis_session.proofs.due_machine.DueMachine.ask_asking.Goals as goal

pub invariant_of-self : goal.invariant_of-self
invariant_of-self c = noted_asked c.self.inside.due c.self.inside.machine c.ask_asking.new.self true c.args.number c.args.call c.args.part c.ask_asking.result c.self.invariant c.ask_asking.ensures.asked c.ask_asking.ensures.not c.ask_asking.ensures.err

pub returns-clause-why : goal.returns-clause-why
returns-clause-why c = rw (← c.self.view_is) c.ask_asking.ensures.why
