use Rattle.redis_session.proofs.DoneReplies.{noted_but}
use Rattle.std.proofs.Common.{refl}
use Rattle.session_core.specs.State.{GiveUp}
use Rattle.redis_session.proofs.due_machine.DueMachine.give_up.Goals as goal

pub note_call-requires : goal.note_call-requires
note_call-requires c = noted_but c.self.inside.due c.self.inside.machine c.give_up.new.self (GiveUp c.args.call) (c.give_up.ensures.gave_up c.if-not-give_up.false) c.self.invariant c.args.call refl
