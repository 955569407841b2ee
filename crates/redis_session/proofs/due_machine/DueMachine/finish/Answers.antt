use Rattle.redis_session.proofs.DoneReplies.{noted_but}
use Rattle.std.proofs.Common.{refl}
use Rattle.session_core.specs.State.{Finish}
use Rattle.redis_session.proofs.due_machine.DueMachine.finish.Goals as goal

pub note_call-requires : goal.note_call-requires
note_call-requires c = let happens = c.finish.ensures.finished c.if-not-finish.false in noted_but c.self.inside.due c.self.inside.machine c.finish.new.self (Finish c.args.call happens.0) happens.1 c.self.invariant c.args.call refl
