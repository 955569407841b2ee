use Rattle.std.proofs.Common.{◌≡◌, ◌<◌, ◌^◌, ℕ, true, List, length, ap, sym, ◌∙◌, subst, arith}
use Rattle.session_core.specs.declared.ordered_part.Status.TheVariants.{Asked}
use Rattle.session_core.specs.declared.part.PartOrder.{PartOrder}
use Rattle.session_core.specs.LinkEvents.{Put}
use Rattle.session_core.specs.Order.{MayAsk}
use Rattle.session_core.specs.State.{State}
use Rattle.session_core.specs.State as machine
use Rattle.session_machine.specs.Callers.{order_of}
use Rattle.session_machine.specs.Ties.{is_ordered}
use Rattle.session_machine.specs.Links.{HappensOn}
use Rattle.session_machine.specs.Puts.{put_for}
use Rattle.session_machine.specs.Waiting.{WaitsThere}
use Rattle.session_machine.specs.Kept.{IsPlace, PartGoes}
use Rattle.session_machine.proofs.Keeping.{place_fits}
use Rattle.session_machine.proofs.Asking.{has_of, may_be_asked, not_offered, put_happens, put_kept}
use Rattle.session_core.proofs.LinkSteps.{for_err}
use Rattle.session_machine.proofs.machine.Machine.put.Goals as goal

pub place_of-place-requires-clause-fits : goal.place_of-place-requires-clause-fits
place_of-place-requires-clause-fits c = λ o at there.
    let s : State = record { links = c.self.inside.links; first = c.self.inside.first; calls = c.self.inside.calls.items } in
    let state = c.in-Some.state.now in
    let p = c.in-Some.it.now in
    let w : WaitsThere s.first c.args.call c.args.part s.calls state p = c.in-Some.ensures.some in
    let order : c.order-order.result ≡ p.order = c.order-order.ensures in
    let small : c.self.inside.began < 2 ^ 64 = omega arith in
    place_fits c.self.invariant small (has_of s c.args.call c.args.part state p w) (ap is_ordered (sym order) ∙ o) at there

pub returns-then-not-is_offered-clause-why : goal.returns-then-not-is_offered-clause-why
returns-then-not-is_offered-clause-why c = λ _ request m.
    let s : State = record { links = c.self.inside.links; first = c.self.inside.first; calls = c.self.inside.calls.items } in
    let state = c.in-Some.state.now in
    let p = c.in-Some.it.now in
    let w : WaitsThere s.first c.args.call c.args.part s.calls state p = c.in-Some.ensures.some in
    let order : c.order-order.result ≡ p.order = c.order-order.ensures in
    let at : IsPlace s.first c.args.call c.args.part c.self.inside.places.items p.order c.place_of-place.result = λ o at there. c.place_of-place.ensures (ap is_ordered order ∙ o) at there in
    let never = c.is_offered.ensures.no c.if-not-is_offered.true in
    not_offered s c.args.self.now c.args.number c.args.call c.args.part c.place_of-place.result state p request c.self.view_is c.self.invariant w at
    (ap is_ordered (sym order) ∙ never.0, λ may. never.1 (subst (λ (n : ℕ). MayAsk c.place_of-place.result c.args.number (order_of n c.self.inside.callers)) (sym c.caller-caller.ensures) may)) m

pub invariant_of-self-2 : goal.invariant_of-self-2
invariant_of-self-2 c =
    let s : State = record { links = c.self.inside.links; first = c.self.inside.first; calls = c.self.inside.calls.items } in
    let state = c.in-Some.state.now in
    let p = c.in-Some.it.now in
    let w : WaitsThere s.first c.args.call c.args.part s.calls state p = c.in-Some.ensures.some in
    let order : c.order-order.result ≡ p.order = c.order-order.ensures in
    let at : IsPlace s.first c.args.call c.args.part c.self.inside.places.items p.order c.place_of-place.result = λ o at there. c.place_of-place.ensures (ap is_ordered order ∙ o) at there in
    let wanted : state.is_wanted ≡ true = sym c.is_wanted.ensures ∙ c.if-not-is_wanted.false in
    let offered : is_ordered p.order ≡ true → MayAsk c.place_of-place.result c.args.number (order_of state.caller c.self.inside.callers) = λ o.
    subst (λ (n : ℕ). MayAsk c.place_of-place.result c.args.number (order_of n c.self.inside.callers)) c.caller-caller.ensures (c.is_offered.ensures.yes c.if-not-is_offered.false (ap is_ordered order ∙ o)) in
    let h : HappensOn c.args.number (Put (put_for c.args.asks c.args.call c.args.part p.request)) s.links c.put.new.self =
    subst (λ (r : List ℕ). HappensOn c.args.number (Put (put_for c.args.asks c.args.call c.args.part r)) s.links c.put.new.self) c.request.ensures c.in_ok-put.ensures.ok in
    let goes : PartGoes state.caller c.place_of-place.result p.order (Asked c.args.number) c.self.inside.callers c.note_asked-2.new.callers =
    subst (λ (n : ℕ). PartGoes n c.place_of-place.result p.order (Asked c.args.number) c.self.inside.callers c.note_asked-2.new.callers) c.caller-caller.ensures
    (subst (λ (o : PartOrder). PartGoes c.caller-caller.result c.place_of-place.result o (Asked c.args.number) c.self.inside.callers c.note_asked-2.new.callers) order c.note_asked-2.ensures) in
    put_kept c.args.asks s c.args.number c.args.call c.args.part c.place_of-place.result state p c.put.new.self c.note_asked.new.calls.items c.note_asked-2.new.callers c.self.invariant w wanted at offered h c.note_asked.ensures goes

pub returns-clause-asked : goal.returns-clause-asked
returns-clause-asked c = λ _.
    let s : State = record { links = c.self.inside.links; first = c.self.inside.first; calls = c.self.inside.calls.items } in
    let state = c.in-Some.state.now in
    let p = c.in-Some.it.now in
    let w : WaitsThere s.first c.args.call c.args.part s.calls state p = c.in-Some.ensures.some in
    let order : c.order-order.result ≡ p.order = c.order-order.ensures in
    let at : IsPlace s.first c.args.call c.args.part c.self.inside.places.items p.order c.place_of-place.result = λ o at there. c.place_of-place.ensures (ap is_ordered order ∙ o) at there in
    let wanted : state.is_wanted ≡ true = sym c.is_wanted.ensures ∙ c.if-not-is_wanted.false in
    let offered : is_ordered p.order ≡ true → MayAsk c.place_of-place.result c.args.number (order_of state.caller c.self.inside.callers) = λ o.
    subst (λ (n : ℕ). MayAsk c.place_of-place.result c.args.number (order_of n c.self.inside.callers)) c.caller-caller.ensures (c.is_offered.ensures.yes c.if-not-is_offered.false (ap is_ordered order ∙ o)) in
    let h : HappensOn c.args.number (Put (put_for c.args.asks c.args.call c.args.part p.request)) s.links c.put.new.self =
    subst (λ (r : List ℕ). HappensOn c.args.number (Put (put_for c.args.asks c.args.call c.args.part r)) s.links c.put.new.self) c.request.ensures c.in_ok-put.ensures.ok in
    (p.request, put_happens c.args.asks s c.args.self.now c.args.number c.args.call c.args.part c.place_of-place.result state p c.put.new.self c.note_asked.new.calls.items c.self.view_is c.self.invariant w wanted at offered h c.note_asked.ensures)

pub returns-in_err-put-clause-might : goal.returns-in_err-put-clause-might
returns-in_err-put-clause-might c =
    let s : State = record { links = c.self.inside.links; first = c.self.inside.first; calls = c.self.inside.calls.items } in
    let state = c.in-Some.state.now in
    let p = c.in-Some.it.now in
    let w : WaitsThere s.first c.args.call c.args.part s.calls state p = c.in-Some.ensures.some in
    let order : c.order-order.result ≡ p.order = c.order-order.ensures in
    let at : IsPlace s.first c.args.call c.args.part c.self.inside.places.items p.order c.place_of-place.result = λ o at there. c.place_of-place.ensures (ap is_ordered order ∙ o) at there in
    let wanted : state.is_wanted ≡ true = sym c.is_wanted.ensures ∙ c.if-not-is_wanted.false in
    let offered : is_ordered p.order ≡ true → MayAsk c.place_of-place.result c.args.number (order_of state.caller c.self.inside.callers) = λ o.
    subst (λ (n : ℕ). MayAsk c.place_of-place.result c.args.number (order_of n c.self.inside.callers)) c.caller-caller.ensures (c.is_offered.ensures.yes c.if-not-is_offered.false (ap is_ordered order ∙ o)) in
    let may = may_be_asked s c.args.number c.args.call c.args.part c.place_of-place.result state p c.self.invariant w wanted at offered in
    for_err c.from_residual.result (p.request, subst (λ (t : State). machine.MayAsk t c.args.number c.args.call c.args.part p.request) c.self.view_is may)

pub put-requires-clause-some : goal.put-requires-clause-some
put-requires-clause-some c =
    let s : State = record { links = c.self.inside.links; first = c.self.inside.first; calls = c.self.inside.calls.items } in
    let state = c.in-Some.state.now in
    let p = c.in-Some.it.now in
    let w : WaitsThere s.first c.args.call c.args.part s.calls state p = c.in-Some.ensures.some in
    subst (λ (r : List ℕ). 0 < length r) (sym c.request.ensures) (c.self.invariant.some state.caller c.args.call c.args.part p (has_of s c.args.call c.args.part state p w))
