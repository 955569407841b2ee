use Rattle.redis_session.proofs.DoneReplies.{noted_if}
use Rattle.std.proofs.Common.{refl}
use Rattle.session_core.specs.State.{Forget}
use Rattle.redis_session.proofs.due_machine.DueMachine.forget.Goals as goal

pub invariant_of-self : goal.invariant_of-self
invariant_of-self c = noted_if c.self.inside.due c.self.inside.machine c.forget.new.self (Forget c.args.number) c.forget.result refl c.self.invariant c.forget.ensures.forgot c.forget.ensures.not
