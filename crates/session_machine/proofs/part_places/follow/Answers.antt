use Rattle.std.proofs.Common.{◌≡◌, ℕ, true, ap, sym, ◌∙◌, subst}
use Rattle.session_core.specs.Order.{IsOnItsWay}
use Rattle.session_machine.specs.Callers.{order_of}
use Rattle.session_machine.specs.Ties.{is_ordered}
use Rattle.session_machine.proofs.part_places.follow.Goals as goal

pub place_of-place-requires-clause-within : goal.place_of-place-requires-clause-within
place_of-place-requires-clause-within c =
    let m = c.requires c.in-Some.state.now c.in-Some-part.it.now c.in-Some.ensures.some c.in-Some-part.ensures.some in
    (m.low, m.within)

pub note_moved-requires-clause-on_way : goal.note_moved-requires-clause-on_way
note_moved-requires-clause-on_way c = λ o.
    let m = c.requires c.in-Some.state.now c.in-Some-part.it.now c.in-Some.ensures.some c.in-Some-part.ensures.some in
    let own : is_ordered c.in-Some-part.it.now.order ≡ true = ap is_ordered (sym c.order-order.ensures) ∙ o in
    subst (λ (n : ℕ). IsOnItsWay c.place_of-place.result (order_of n c.args.callers.now)) (sym c.caller.ensures)
    (m.on_way c.place_of-place.result (λ _ at there. c.place_of-place.ensures o at there) own)

pub note_moved-requires-clause-moved : goal.note_moved-requires-clause-moved
note_moved-requires-clause-moved c = λ link e.
    let m = c.requires c.in-Some.state.now c.in-Some-part.it.now c.in-Some.ensures.some c.in-Some-part.ensures.some in
    m.moved link (sym c.status.ensures ∙ e)
