use Rattle.std.proofs.Common.{ap}
use Rattle.session_core.specs.LinkEvents as link
use Rattle.session_core.specs.State.{On}
use Rattle.session_core.specs.declared.link.Ticket.{Ticket}
use Rattle.redis_session.specs.Due.{touched}
use Rattle.redis_session.proofs.DoneReplies.{lost_noted, noted_but}
use Rattle.redis_session.proofs.due_machine.DueMachine.lose.Goals as goal

pub note_call-requires : goal.note_call-requires
note_call-requires c = noted_but c.self.inside.due c.self.inside.machine c.lose.new.self (On c.args.number (link.Lose c.in_ok-lost.lost.0 c.in_ok-lost.lost.1)) c.in_ok-lost.ensures.lost c.self.invariant c.in-Part.call
    (ap (λ (t : Ticket). touched (On c.args.number (link.Lose t c.in_ok-lost.lost.1))) c.in-Part.is)

pub invariant_of-self-in_default : goal.invariant_of-self-in_default
invariant_of-self-in_default c = lost_noted c.args.number c.self.inside.due c.self.inside.machine c.lose.new.self c.in_ok-lost.lost.0 c.in_ok-lost.lost.1 c.self.invariant c.in_ok-lost.ensures.lost c.in_default.not-Part
