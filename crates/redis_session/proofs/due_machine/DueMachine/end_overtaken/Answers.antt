use Rattle.redis_session.proofs.DoneReplies.{noted_but}
use Rattle.std.proofs.Common.{refl}
use Rattle.session_core.specs.State.{End}
use Rattle.session_core.specs.declared.part.Cause.TheVariants.{Overtaken}
use Rattle.redis_session.proofs.due_machine.DueMachine.end_overtaken.Goals as goal

pub note_call-requires : goal.note_call-requires
note_call-requires c = noted_but c.self.inside.due c.self.inside.machine c.end_overtaken.new.self (End c.in-Some.seat.call c.in-Some.seat.part Overtaken) c.in-Some.ensures.ended c.self.invariant c.in-Some.seat.call refl

pub returns-in_default-clause-why : goal.returns-in_default-clause-why
returns-in_default-clause-why c = rw (← c.self.view_is) c.in_default.ensures.why
