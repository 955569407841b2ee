use Rattle.std.proofs.Common.{◌<◌, ◌^◌, subst, arith}
use Rattle.session_core.specs.declared.link.Ticket.{Ticket}
use Rattle.session_core.specs.declared.link.Ticket.TheVariants.{Login, Map, Asking, Part}
use Rattle.session_core.specs.LinkEvents as link
use Rattle.session_core.specs.State.{State}
use Rattle.session_machine.specs.Links.{HappensOn}
use Rattle.session_machine.proofs.Keeping.{quiet_happens, quiet_kept}
use Rattle.session_machine.proofs.Taking.{lost_follow, lost_happens, lost_kept}
use Rattle.session_machine.proofs.machine.Machine.lose.Goals as goal

pub invariant_of-self-in-Login : goal.invariant_of-self-in-Login
invariant_of-self-in-Login c =
    let s : State = record { links = c.self.inside.links; first = c.self.inside.first; calls = c.self.inside.calls.items } in
    let h : HappensOn c.args.number (link.Lose Login c.in-Some.begun) c.self.inside.links c.lose.new.self = subst (λ (t : Ticket). HappensOn c.args.number (link.Lose t c.in-Some.begun) c.self.inside.links c.lose.new.self) c.in-Login.is c.in-Some.ensures.lost in
    quiet_kept s c.args.number _ c.lose.new.self c.self.invariant h tt (λ x. x)

pub returns-in-Login-clause-lost : goal.returns-in-Login-clause-lost
returns-in-Login-clause-lost c =
    let s : State = record { links = c.self.inside.links; first = c.self.inside.first; calls = c.self.inside.calls.items } in
    let h : HappensOn c.args.number (link.Lose Login c.in-Some.begun) c.self.inside.links c.lose.new.self = subst (λ (t : Ticket). HappensOn c.args.number (link.Lose t c.in-Some.begun) c.self.inside.links c.lose.new.self) c.in-Login.is c.in-Some.ensures.lost in
    quiet_happens s c.args.self.now c.args.number _ c.lose.new.self c.self.view_is h tt (λ x. x)

pub invariant_of-self-in-Map : goal.invariant_of-self-in-Map
invariant_of-self-in-Map c =
    let s : State = record { links = c.self.inside.links; first = c.self.inside.first; calls = c.self.inside.calls.items } in
    let h : HappensOn c.args.number (link.Lose (Map c.in-Map.count) c.in-Some.begun) c.self.inside.links c.lose.new.self = subst (λ (t : Ticket). HappensOn c.args.number (link.Lose t c.in-Some.begun) c.self.inside.links c.lose.new.self) c.in-Map.is c.in-Some.ensures.lost in
    quiet_kept s c.args.number _ c.lose.new.self c.self.invariant h tt (λ x. x)

pub returns-in-Map-clause-lost : goal.returns-in-Map-clause-lost
returns-in-Map-clause-lost c =
    let s : State = record { links = c.self.inside.links; first = c.self.inside.first; calls = c.self.inside.calls.items } in
    let h : HappensOn c.args.number (link.Lose (Map c.in-Map.count) c.in-Some.begun) c.self.inside.links c.lose.new.self = subst (λ (t : Ticket). HappensOn c.args.number (link.Lose t c.in-Some.begun) c.self.inside.links c.lose.new.self) c.in-Map.is c.in-Some.ensures.lost in
    quiet_happens s c.args.self.now c.args.number _ c.lose.new.self c.self.view_is h tt (λ x. x)

pub invariant_of-self-in-Asking : goal.invariant_of-self-in-Asking
invariant_of-self-in-Asking c =
    let s : State = record { links = c.self.inside.links; first = c.self.inside.first; calls = c.self.inside.calls.items } in
    let h : HappensOn c.args.number (link.Lose Asking c.in-Some.begun) c.self.inside.links c.lose.new.self = subst (λ (t : Ticket). HappensOn c.args.number (link.Lose t c.in-Some.begun) c.self.inside.links c.lose.new.self) c.in-Asking.is c.in-Some.ensures.lost in
    quiet_kept s c.args.number _ c.lose.new.self c.self.invariant h tt (λ x. x)

pub returns-in-Asking-clause-lost : goal.returns-in-Asking-clause-lost
returns-in-Asking-clause-lost c =
    let s : State = record { links = c.self.inside.links; first = c.self.inside.first; calls = c.self.inside.calls.items } in
    let h : HappensOn c.args.number (link.Lose Asking c.in-Some.begun) c.self.inside.links c.lose.new.self = subst (λ (t : Ticket). HappensOn c.args.number (link.Lose t c.in-Some.begun) c.self.inside.links c.lose.new.self) c.in-Asking.is c.in-Some.ensures.lost in
    quiet_happens s c.args.self.now c.args.number _ c.lose.new.self c.self.view_is h tt (λ x. x)

pub lose-requires-in-Part : goal.lose-requires-in-Part
lose-requires-in-Part c =
    let h : HappensOn c.args.number (link.Lose (Part c.in-Part.call c.in-Part.part) c.in-Some.begun) c.self.inside.links c.lose.new.self = subst (λ (t : Ticket). HappensOn c.args.number (link.Lose t c.in-Some.begun) c.self.inside.links c.lose.new.self) c.in-Part.is c.in-Some.ensures.lost in
    let small : c.self.inside.began < 2 ^ 64 = omega arith in
    lost_follow c.self.invariant c.args.number c.in-Part.call c.in-Part.part c.in-Some.begun c.lose.new.self h small

pub invariant_of-self-in-Part : goal.invariant_of-self-in-Part
invariant_of-self-in-Part c =
    let h : HappensOn c.args.number (link.Lose (Part c.in-Part.call c.in-Part.part) c.in-Some.begun) c.self.inside.links c.lose.new.self = subst (λ (t : Ticket). HappensOn c.args.number (link.Lose t c.in-Some.begun) c.self.inside.links c.lose.new.self) c.in-Part.is c.in-Some.ensures.lost in
    let small : c.self.inside.began < 2 ^ 64 = omega arith in
    lost_kept c.self.invariant c.args.number c.in-Part.call c.in-Part.part c.in-Some.begun c.lose.new.self h c.lose-in-Part.new.calls.items c.lose-in-Part.new.callers small c.lose-in-Part.ensures.calls c.lose-in-Part.ensures.callers

pub returns-in-Part-clause-lost : goal.returns-in-Part-clause-lost
returns-in-Part-clause-lost c =
    let h : HappensOn c.args.number (link.Lose (Part c.in-Part.call c.in-Part.part) c.in-Some.begun) c.self.inside.links c.lose.new.self = subst (λ (t : Ticket). HappensOn c.args.number (link.Lose t c.in-Some.begun) c.self.inside.links c.lose.new.self) c.in-Part.is c.in-Some.ensures.lost in
    lost_happens c.self.invariant c.args.number c.in-Part.call c.in-Part.part c.in-Some.begun c.lose.new.self h c.args.self.now c.lose-in-Part.new.calls.items c.self.view_is c.lose-in-Part.ensures.calls
