use Rattle.std.proofs.Common.{◌≡◌, ◌<◌, ◌^◌, ℕ, ap, sym, ◌∙◌, subst, arith}
use Rattle.session_core.specs.declared.ordered_part.Status.TheVariants.{Unsent}
use Rattle.session_core.specs.declared.part.PartOrder.{PartOrder}
use Rattle.session_core.specs.Order.{IsWaiting}
use Rattle.session_core.specs.State.{State, MayEnd}
use Rattle.session_machine.specs.Callers.{order_of}
use Rattle.session_machine.specs.Ties.{is_ordered}
use Rattle.session_machine.specs.Waiting.{WaitsThere}
use Rattle.session_machine.specs.Kept.{IsPlace, PartGoes}
use Rattle.session_machine.proofs.Keeping.{place_fits}
use Rattle.session_machine.proofs.Asking.{has_of}
use Rattle.session_machine.proofs.Ending.{end_happens, end_waiting, end_kept}
use Rattle.session_machine.proofs.machine.Machine.end_part.Goals as goal

pub place_of-place-requires-clause-fits : goal.place_of-place-requires-clause-fits
place_of-place-requires-clause-fits c = λ o at there.
    let s : State = record { links = c.self.inside.links; first = c.self.inside.first; calls = c.self.inside.calls.items } in
    let state = c.in-Some.state.now in
    let p = c.in-Some.it.now in
    let w : WaitsThere s.first c.args.call c.args.part s.calls state p = c.in-Some.ensures.some in
    let order : c.order-order.result ≡ p.order = c.order-order.ensures in
    let small : c.self.inside.began < 2 ^ 64 = omega arith in
    place_fits c.self.invariant small (has_of s c.args.call c.args.part state p w) (ap is_ordered (sym order) ∙ o) at there

pub note_unsent-requires : goal.note_unsent-requires
note_unsent-requires c = λ o.
    let s : State = record { links = c.self.inside.links; first = c.self.inside.first; calls = c.self.inside.calls.items } in
    let state = c.in-Some.state.now in
    let p = c.in-Some.it.now in
    let w : WaitsThere s.first c.args.call c.args.part s.calls state p = c.in-Some.ensures.some in
    let order : c.order-order.result ≡ p.order = c.order-order.ensures in
    let at : IsPlace s.first c.args.call c.args.part c.self.inside.places.items p.order c.place_of-place.result = λ o at there. c.place_of-place.ensures (ap is_ordered order ∙ o) at there in
    subst (λ (n : ℕ). IsWaiting c.place_of-place.result (order_of n c.self.inside.callers)) (sym c.caller-caller.ensures)
    (end_waiting s c.args.call c.args.part c.place_of-place.result state p c.self.invariant w at (ap is_ordered (sym order) ∙ o))

pub invariant_of-self : goal.invariant_of-self
invariant_of-self c =
    let s : State = record { links = c.self.inside.links; first = c.self.inside.first; calls = c.self.inside.calls.items } in
    let state = c.in-Some.state.now in
    let p = c.in-Some.it.now in
    let w : WaitsThere s.first c.args.call c.args.part s.calls state p = c.in-Some.ensures.some in
    let order : c.order-order.result ≡ p.order = c.order-order.ensures in
    let at : IsPlace s.first c.args.call c.args.part c.self.inside.places.items p.order c.place_of-place.result = λ o at there. c.place_of-place.ensures (ap is_ordered order ∙ o) at there in
    let goes : PartGoes state.caller c.place_of-place.result p.order Unsent c.self.inside.callers c.note_unsent.new.callers =
    subst (λ (n : ℕ). PartGoes n c.place_of-place.result p.order Unsent c.self.inside.callers c.note_unsent.new.callers) c.caller-caller.ensures
    (subst (λ (o : PartOrder). PartGoes c.caller-caller.result c.place_of-place.result o Unsent c.self.inside.callers c.note_unsent.new.callers) order c.note_unsent.ensures) in
    end_kept s c.args.call c.args.part c.place_of-place.result c.args.cause state p c.note_ended.new.calls.items c.note_unsent.new.callers c.self.invariant w (subst (λ (t : State). MayEnd t c.args.call c.args.part c.args.cause) (sym c.self.view_is) c.requires) at c.note_ended.ensures goes

pub returns-clause-ended : goal.returns-clause-ended
returns-clause-ended c = λ _.
    let s : State = record { links = c.self.inside.links; first = c.self.inside.first; calls = c.self.inside.calls.items } in
    let state = c.in-Some.state.now in
    let p = c.in-Some.it.now in
    let w : WaitsThere s.first c.args.call c.args.part s.calls state p = c.in-Some.ensures.some in
    let order : c.order-order.result ≡ p.order = c.order-order.ensures in
    end_happens s c.args.self.now c.args.call c.args.part c.args.cause state p c.note_ended.new.calls.items c.self.view_is w (subst (λ (t : State). MayEnd t c.args.call c.args.part c.args.cause) (sym c.self.view_is) c.requires) c.note_ended.ensures
