use Rattle.redis_session.proofs.DoneReplies.{noted_after}
use Rattle.std.proofs.Common.{refl}
use Rattle.session_core.specs.LinkEvents as link
use Rattle.session_core.specs.State.{On}
use Rattle.redis_session.proofs.due_machine.DueMachine.end.Goals as goal

pub invariant_of-self : goal.invariant_of-self
invariant_of-self c = noted_after c.self.inside.due c.self.inside.machine c.end.new.self (On c.args.number link.End) c.end.ensures c.self.invariant refl
