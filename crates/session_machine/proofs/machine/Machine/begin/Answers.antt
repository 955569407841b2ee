use Rattle.std.proofs.Common.{◌≡◌, ◌<◌, ◌+◌, ◌^◌, ◌++◌, [], ◌∷◌, List, length, ap, sym, ◌∙◌, subst, arith}
use Rattle.session_core.specs.Order.{MayJoin, joined}
use Rattle.session_core.specs.declared.part.PartOrder.{PartOrder}
use Rattle.session_core.specs.State.{State, CallState, begun}
use Rattle.session_machine.specs.declared.caller.CallPlaces.{CallPlaces}
use Rattle.session_machine.specs.Callers.{order_of}
use Rattle.session_machine.specs.Begun.{ordered_of}
use Rattle.session_machine.specs.Kept.{IsKept}
use Rattle.session_machine.proofs.Keeping.{state_of}
use Rattle.session_machine.proofs.Ties.Owed.{owed_before}
use Rattle.session_machine.proofs.Beginning.{joins, begin_failed, begin_kept, begun_call}
use Rattle.session_machine.proofs.machine.Machine.begin.Goals as goal

pub begin-requires-clause-later : goal.begin-requires-clause-later
begin-requires-clause-later c =
    let s : State = record { links = c.self.inside.links; first = c.self.inside.first; calls = c.self.inside.calls.items } in
    let call = c.count_begun-call.result in
    let is : call ≡ begun s = subst (λ (t : State). call ≡ begun t) (sym c.self.view_is) c.count_begun-call.ensures in
    owed_before c.args.caller call c.self.invariant.owed (omega (arith, is))

pub begin-requires-clause-joins : goal.begin-requires-clause-joins
begin-requires-clause-joins c =
    let s : State = record { links = c.self.inside.links; first = c.self.inside.first; calls = c.self.inside.calls.items } in
    let call = c.count_begun-call.result in
    let is : call ≡ begun s = subst (λ (t : State). call ≡ begun t) (sym c.self.view_is) c.count_begun-call.ensures in
    let orders : c.as_slice-2.result.now ≡ ordered_of c.args.parts.items = c.as_slice-2.ensures ∙ c.in_ok-orders.ensures ∙ ap ordered_of c.as_slice.ensures.value in
    subst (λ (os : List PartOrder). MayJoin call os (order_of c.args.caller c.self.inside.callers)) (sym orders)
    (joins s c.self.invariant call c.args.caller c.args.parts.items is c.requires.wait c.requires.apart c.requires.alike)

pub invariant_of-self-in_err-places : goal.invariant_of-self-in_err-places
invariant_of-self-in_err-places c =
    let s : State = record { links = c.self.inside.links; first = c.self.inside.first; calls = c.self.inside.calls.items } in
    subst (λ (cs : List CallState). IsKept (state_of s.links s.first cs) c.reserve-2.new.self.items c.begin.new.self c.self.inside.began) (sym c.reserve.ensures.items)
    (subst (λ (ps : List CallPlaces). IsKept s ps c.begin.new.self c.self.inside.began) (sym c.reserve-2.ensures.items)
    (begin_failed s c.begin.new.self c.self.invariant c.in_err-places.ensures.err))

pub invariant_of-self-2 : goal.invariant_of-self-2
invariant_of-self-2 c =
    let s : State = record { links = c.self.inside.links; first = c.self.inside.first; calls = c.self.inside.calls.items } in
    let call = c.count_begun-call.result in
    let is : call ≡ begun s = subst (λ (t : State). call ≡ begun t) (sym c.self.view_is) c.count_begun-call.ensures in
    let orders : c.as_slice-2.result.now ≡ ordered_of c.args.parts.items = c.as_slice-2.ensures ∙ c.in_ok-orders.ensures ∙ ap ordered_of c.as_slice.ensures.value in
    let e = c.in_ok-places.ensures in
    let calls_are : c.push_back_reserved.new.self.items ≡ s.calls ++ begun_call c.args.caller c.args.parts.items ∷ [] =
    c.push_back_reserved.ensures.items ∙ ap (λ (cs : List CallState). cs ++ c.new.result ∷ []) c.reserve.ensures.items ∙ ap (λ (x : CallState). s.calls ++ x ∷ []) c.new.ensures in
    let more_is : c.push_back_reserved-2.new.self.items ≡ c.self.inside.places.items ++ c.in_ok-places.places ∷ [] =
    c.push_back_reserved-2.ensures.items ∙ ap (λ (ps : List CallPlaces). ps ++ c.in_ok-places.places ∷ []) c.reserve-2.ensures.items in
    let total : c.in-Some.began ≡ c.self.inside.began + length c.args.parts.items = omega (arith, c.in-Some.ensures, c.len.ensures) in
    let room : call + 1 < 2 ^ 64 = omega (arith, is, c.self.invariant.fits, c.if-call.false) in
    begin_kept s c.self.invariant call c.args.caller c.args.parts.items c.in_ok-places.places c.begin.new.self c.push_back_reserved.new.self.items is c.requires.wait c.requires.apart c.requires.alike c.requires.some
    e.caller e.place (e.joined ∙ ap (λ os. joined call os (order_of c.args.caller c.self.inside.callers)) orders) e.owed e.last e.others calls_are c.push_back_reserved-2.new.self.items c.in-Some.began more_is total room
