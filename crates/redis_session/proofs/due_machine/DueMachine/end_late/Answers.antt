use Rattle.redis_session.proofs.DoneReplies.{noted_but}
use Rattle.std.proofs.Common.{refl}
use Rattle.session_core.specs.State.{End}
use Rattle.session_core.specs.declared.part.Cause.TheVariants.{Late}
use Rattle.redis_session.proofs.due_machine.DueMachine.end_late.Goals as goal

pub note_call-requires : goal.note_call-requires
note_call-requires c = noted_but c.self.inside.due c.self.inside.machine c.end_late.new.self (End c.args.call c.args.part Late) (c.end_late.ensures.ended c.if-not-end_late.false) c.self.invariant c.args.call refl
