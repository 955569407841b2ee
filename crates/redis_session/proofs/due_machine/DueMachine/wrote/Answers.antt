use Rattle.redis_session.proofs.DoneReplies.{noted_after}
use Rattle.std.proofs.Common.{refl}
use Rattle.session_core.specs.LinkEvents as link
use Rattle.session_core.specs.State.{On}
use Rattle.redis_session.proofs.due_machine.DueMachine.wrote.Goals as goal

pub invariant_of-self : goal.invariant_of-self
invariant_of-self c = noted_after c.self.inside.due c.self.inside.machine c.wrote.new.self (On c.args.number (link.Write c.args.count)) c.wrote.ensures c.self.invariant refl
