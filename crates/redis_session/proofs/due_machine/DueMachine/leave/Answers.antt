use Rattle.redis_session.proofs.DoneReplies.{noted_if}
use Rattle.std.proofs.Common.{refl}
use Rattle.session_core.specs.State.{Leave}
use Rattle.redis_session.proofs.due_machine.DueMachine.leave.Goals as goal

pub invariant_of-self : goal.invariant_of-self
invariant_of-self c = noted_if c.self.inside.due c.self.inside.machine c.leave.new.self (Leave c.args.call) c.leave.result refl c.self.invariant c.leave.ensures.left c.leave.ensures.not
