use Rattle.std.proofs.Common.{◌<◌, ◌^◌, subst, arith}
use Rattle.session_core.specs.declared.link.Ticket.{Ticket}
use Rattle.session_core.specs.declared.link.Ticket.TheVariants.{Login, Map, Asking, Part}
use Rattle.session_core.specs.LinkEvents as link
use Rattle.session_core.specs.State.{State}
use Rattle.session_core.specs.declared.link.Taken.{Taken}
use Rattle.session_machine.specs.Links.{HasReply, HappensOn, IsTakenOn}
use Rattle.session_core.proofs.LinkSteps.{for_err}
use Rattle.session_machine.proofs.Keeping.{quiet_happens, quiet_kept}
use Rattle.session_machine.proofs.Taking.{told_follow, told_happens, told_keeps, told_kept, told_returns, took_as}
use Rattle.session_machine.proofs.machine.Machine.take.Goals as goal

pub invariant_of-self-in-Broken : goal.invariant_of-self-in-Broken
invariant_of-self-in-Broken c =
    let s : State = record { links = c.self.inside.links; first = c.self.inside.first; calls = c.self.inside.calls.items } in
    let h : HappensOn c.args.number (link.Break c.in-Broken.cause) c.self.inside.links c.take.new.self = subst (λ (t : Taken). IsTakenOn c.args.number c.self.inside.links t c.take.new.self) c.in-Broken.is c.in_ok-take.ensures.taken in
    quiet_kept s c.args.number _ c.take.new.self c.self.invariant h tt tt

pub returns-in-Broken-clause-took : goal.returns-in-Broken-clause-took
returns-in-Broken-clause-took c =
    let s : State = record { links = c.self.inside.links; first = c.self.inside.first; calls = c.self.inside.calls.items } in
    let h : HappensOn c.args.number (link.Break c.in-Broken.cause) c.self.inside.links c.take.new.self = subst (λ (t : Taken). IsTakenOn c.args.number c.self.inside.links t c.take.new.self) c.in-Broken.is c.in_ok-take.ensures.taken in
    quiet_happens s c.args.self.now c.args.number _ c.take.new.self c.self.view_is h tt tt

pub invariant_of-self-in-Login : goal.invariant_of-self-in-Login
invariant_of-self-in-Login c =
    let s : State = record { links = c.self.inside.links; first = c.self.inside.first; calls = c.self.inside.calls.items } in
    let taken : HappensOn c.args.number (link.Take c.in-Reply.ticket c.in-Reply.reply.items) c.self.inside.links c.take.new.self = subst (λ (t : Taken). IsTakenOn c.args.number c.self.inside.links t c.take.new.self) c.in-Reply.is c.in_ok-take.ensures.taken in
    let h : HappensOn c.args.number (link.Take Login c.in-Reply.reply.items) c.self.inside.links c.take.new.self = subst (λ (t : Ticket). HappensOn c.args.number (link.Take t c.in-Reply.reply.items) c.self.inside.links c.take.new.self) c.in-Login.is taken in
    quiet_kept s c.args.number _ c.take.new.self c.self.invariant h tt (λ x. x)

pub returns-in-Login-clause-took : goal.returns-in-Login-clause-took
returns-in-Login-clause-took c =
    let s : State = record { links = c.self.inside.links; first = c.self.inside.first; calls = c.self.inside.calls.items } in
    let taken : HappensOn c.args.number (link.Take c.in-Reply.ticket c.in-Reply.reply.items) c.self.inside.links c.take.new.self = subst (λ (t : Taken). IsTakenOn c.args.number c.self.inside.links t c.take.new.self) c.in-Reply.is c.in_ok-take.ensures.taken in
    let h : HappensOn c.args.number (link.Take Login c.in-Reply.reply.items) c.self.inside.links c.take.new.self = subst (λ (t : Ticket). HappensOn c.args.number (link.Take t c.in-Reply.reply.items) c.self.inside.links c.take.new.self) c.in-Login.is taken in
    quiet_happens s c.args.self.now c.args.number _ c.take.new.self c.self.view_is h tt (λ x. x)

pub invariant_of-self-in-Map : goal.invariant_of-self-in-Map
invariant_of-self-in-Map c =
    let s : State = record { links = c.self.inside.links; first = c.self.inside.first; calls = c.self.inside.calls.items } in
    let taken : HappensOn c.args.number (link.Take c.in-Reply.ticket c.in-Reply.reply.items) c.self.inside.links c.take.new.self = subst (λ (t : Taken). IsTakenOn c.args.number c.self.inside.links t c.take.new.self) c.in-Reply.is c.in_ok-take.ensures.taken in
    let h : HappensOn c.args.number (link.Take (Map c.in-Map.count) c.in-Reply.reply.items) c.self.inside.links c.take.new.self = subst (λ (t : Ticket). HappensOn c.args.number (link.Take t c.in-Reply.reply.items) c.self.inside.links c.take.new.self) c.in-Map.is taken in
    quiet_kept s c.args.number _ c.take.new.self c.self.invariant h tt (λ x. x)

pub returns-in-Map-clause-took : goal.returns-in-Map-clause-took
returns-in-Map-clause-took c =
    let s : State = record { links = c.self.inside.links; first = c.self.inside.first; calls = c.self.inside.calls.items } in
    let taken : HappensOn c.args.number (link.Take c.in-Reply.ticket c.in-Reply.reply.items) c.self.inside.links c.take.new.self = subst (λ (t : Taken). IsTakenOn c.args.number c.self.inside.links t c.take.new.self) c.in-Reply.is c.in_ok-take.ensures.taken in
    let h : HappensOn c.args.number (link.Take (Map c.in-Map.count) c.in-Reply.reply.items) c.self.inside.links c.take.new.self = subst (λ (t : Ticket). HappensOn c.args.number (link.Take t c.in-Reply.reply.items) c.self.inside.links c.take.new.self) c.in-Map.is taken in
    quiet_happens s c.args.self.now c.args.number _ c.take.new.self c.self.view_is h tt (λ x. x)

pub invariant_of-self-in-Asking : goal.invariant_of-self-in-Asking
invariant_of-self-in-Asking c =
    let s : State = record { links = c.self.inside.links; first = c.self.inside.first; calls = c.self.inside.calls.items } in
    let taken : HappensOn c.args.number (link.Take c.in-Reply.ticket c.in-Reply.reply.items) c.self.inside.links c.take.new.self = subst (λ (t : Taken). IsTakenOn c.args.number c.self.inside.links t c.take.new.self) c.in-Reply.is c.in_ok-take.ensures.taken in
    let h : HappensOn c.args.number (link.Take Asking c.in-Reply.reply.items) c.self.inside.links c.take.new.self = subst (λ (t : Ticket). HappensOn c.args.number (link.Take t c.in-Reply.reply.items) c.self.inside.links c.take.new.self) c.in-Asking.is taken in
    quiet_kept s c.args.number _ c.take.new.self c.self.invariant h tt (λ x. x)

pub returns-in-Asking-clause-took : goal.returns-in-Asking-clause-took
returns-in-Asking-clause-took c =
    let s : State = record { links = c.self.inside.links; first = c.self.inside.first; calls = c.self.inside.calls.items } in
    let taken : HappensOn c.args.number (link.Take c.in-Reply.ticket c.in-Reply.reply.items) c.self.inside.links c.take.new.self = subst (λ (t : Taken). IsTakenOn c.args.number c.self.inside.links t c.take.new.self) c.in-Reply.is c.in_ok-take.ensures.taken in
    let h : HappensOn c.args.number (link.Take Asking c.in-Reply.reply.items) c.self.inside.links c.take.new.self = subst (λ (t : Ticket). HappensOn c.args.number (link.Take t c.in-Reply.reply.items) c.self.inside.links c.take.new.self) c.in-Asking.is taken in
    quiet_happens s c.args.self.now c.args.number _ c.take.new.self c.self.view_is h tt (λ x. x)

pub tell-requires : goal.tell-requires
tell-requires c =
    let taken : HappensOn c.args.number (link.Take c.in-Reply.ticket c.in-Reply.reply.items) c.self.inside.links c.take.new.self = subst (λ (t : Taken). IsTakenOn c.args.number c.self.inside.links t c.take.new.self) c.in-Reply.is c.in_ok-take.ensures.taken in
    let h : HappensOn c.args.number (link.Take (Part c.in-Part.call c.in-Part.part) c.in-Reply.reply.items) c.self.inside.links c.take.new.self = subst (λ (t : Ticket). HappensOn c.args.number (link.Take t c.in-Reply.reply.items) c.self.inside.links c.take.new.self) c.in-Part.is taken in
    let small : c.self.inside.began < 2 ^ 64 = omega arith in
    told_follow c.self.invariant c.args.number c.in-Part.call c.in-Part.part c.in-Reply.reply.items c.take.new.self h small

pub invariant_of-self-in-Part : goal.invariant_of-self-in-Part
invariant_of-self-in-Part c =
    let taken : HappensOn c.args.number (link.Take c.in-Reply.ticket c.in-Reply.reply.items) c.self.inside.links c.take.new.self = subst (λ (t : Taken). IsTakenOn c.args.number c.self.inside.links t c.take.new.self) c.in-Reply.is c.in_ok-take.ensures.taken in
    let h : HappensOn c.args.number (link.Take (Part c.in-Part.call c.in-Part.part) c.in-Reply.reply.items) c.self.inside.links c.take.new.self = subst (λ (t : Ticket). HappensOn c.args.number (link.Take t c.in-Reply.reply.items) c.self.inside.links c.take.new.self) c.in-Part.is taken in
    let small : c.self.inside.began < 2 ^ 64 = omega arith in
    told_kept c.self.invariant c.args.number c.in-Part.call c.in-Part.part c.in-Reply.reply.items c.take.new.self h c.tell.new.calls.items c.tell.new.callers small c.tell.ensures.calls c.tell.ensures.callers

pub returns-in-Part-clause-took : goal.returns-in-Part-clause-took
returns-in-Part-clause-took c =
    let taken : HappensOn c.args.number (link.Take c.in-Reply.ticket c.in-Reply.reply.items) c.self.inside.links c.take.new.self = subst (λ (t : Taken). IsTakenOn c.args.number c.self.inside.links t c.take.new.self) c.in-Reply.is c.in_ok-take.ensures.taken in
    let h : HappensOn c.args.number (link.Take (Part c.in-Part.call c.in-Part.part) c.in-Reply.reply.items) c.self.inside.links c.take.new.self = subst (λ (t : Ticket). HappensOn c.args.number (link.Take t c.in-Reply.reply.items) c.self.inside.links c.take.new.self) c.in-Part.is taken in
    took_as c.args.self.now _ c.args.number c.in-Part.call c.in-Part.part c.in-Reply.reply.items c.self.inside.first c.self.inside.calls.items c.tell.new.calls.items c.tell.result c.tell.ensures.took
    (told_happens c.self.invariant c.args.number c.in-Part.call c.in-Part.part c.in-Reply.reply.items c.take.new.self h c.args.self.now c.tell.new.calls.items c.self.view_is c.tell.ensures.calls)
    (told_keeps c.self.invariant c.args.number c.in-Part.call c.in-Part.part c.in-Reply.reply.items c.take.new.self h c.tell.new.calls.items c.tell.ensures.calls)
    (told_returns c.self.invariant c.args.number c.in-Part.call c.in-Part.part c.in-Reply.reply.items c.take.new.self h c.tell.new.calls.items c.tell.ensures.calls)

pub returns-in_err-take-clause-cause : goal.returns-in_err-take-clause-cause
returns-in_err-take-clause-cause c = for_err c.from_residual.result (subst (λ (t : State). HasReply c.args.number t.links) c.self.view_is c.in_err-take.ensures.cause)
