use Rattle.session_core.specs.State.{State}
use Rattle.session_machine.proofs.Outcomes.{if_some, if_none}
use Rattle.session_machine.proofs.Finishing.{next_held, next_none}
use Rattle.session_machine.proofs.machine.Machine.next_call.Goals as goal

pub returns-clause-some : goal.returns-clause-some
returns-clause-some c =
    let s : State = record { links = c.self.inside.links; first = c.self.inside.first; calls = c.self.inside.calls.items } in
    if_some c.next_reply.result c.next_reply.ensures.some (λ call first. next_held s c.args.self.now c.self.invariant c.args.caller call c.self.view_is first)

pub returns-clause-none : goal.returns-clause-none
returns-clause-none c =
    let s : State = record { links = c.self.inside.links; first = c.self.inside.first; calls = c.self.inside.calls.items } in
    if_none c.next_reply.result c.next_reply.ensures.none (λ none. next_none s c.args.self.now c.self.invariant c.args.caller c.self.view_is none)
