use Rattle.std.proofs.Common.{◌≡◌, ℕ, true, ap, sym, ◌∙◌, subst}
use Rattle.session_core.specs.Order.{MayAsk}
use Rattle.session_core.specs.State.{State}
use Rattle.session_machine.specs.Callers.{order_of}
use Rattle.session_machine.specs.Ties.{is_ordered}
use Rattle.session_machine.specs.Waiting.{WaitsThere}
use Rattle.session_machine.specs.Kept.{IsPlace}
use Rattle.session_machine.proofs.Asking.{not_offered}
use Rattle.session_machine.proofs.machine.Machine.is_held_back.Goals as goal

pub returns : goal.returns
returns c = λ held number request m.
    let s : State = record { links = c.self.inside.links; first = c.self.inside.first; calls = c.self.inside.calls.items } in
    let state = c.in-Some.state.now in
    let p = c.in-Some.it.now in
    let w : WaitsThere s.first c.args.call c.args.part s.calls state p = c.in-Some.ensures.some in
    let order : c.order-order.result ≡ p.order = c.order-order.ensures in
    let place = c.in-Some-ordered_place.place in
    let at : IsPlace s.first c.args.call c.args.part c.self.inside.places.items p.order place = λ _ at there. c.in-Some-ordered_place.ensures.place at there in
    let ordered : is_ordered p.order ≡ true = ap is_ordered (sym order) ∙ c.in-Some-ordered_place.ensures.ordered in
    not_offered s c.args.self.now number c.args.call c.args.part place state p request c.self.view_is c.self.invariant w at
    (ordered, λ may. c.is_held_back.ensures held number (subst (λ (n : ℕ). MayAsk place number (order_of n c.self.inside.callers)) (sym c.caller-caller.ensures) may)) m
