use Rattle.redis_session.proofs.DoneReplies.{noted_opened}
use Rattle.redis_session.proofs.due_machine.DueMachine.open.Goals as goal

pub invariant_of-self : goal.invariant_of-self
invariant_of-self c = noted_opened c.self.inside.due c.self.inside.machine c.open.new.self c.args.most c.open.result c.self.invariant c.open.ensures.ok c.open.ensures.err
