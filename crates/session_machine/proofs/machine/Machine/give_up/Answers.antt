use Rattle.std.proofs.Common.{◌≡◌, Some, ◌<◌, ◌≤◌, ◌+◌, ◌^◌, ℕ, true, false, length, ap, sym, ◌∙◌, subst, arith}
use Rattle.session_core.specs.State.{State, call_at}
use Rattle.session_machine.specs.Callers.{order_of, owed_of, OnlyOwed}
use Rattle.session_machine.specs.Ties.{Owes, end_of, is_owed}
use Rattle.session_machine.specs.Kept.{CallGoes}
use Rattle.session_machine.proofs.Keeping.{call_stands}
use Rattle.session_machine.proofs.GivingUp.{IsFirstOrder, call_fits, give_within, give_happens, give_owed, give_kept}
use Rattle.session_machine.proofs.machine.Machine.give_up.Goals as goal

pub place_of-place-requires-clause-within : goal.place_of-place-requires-clause-within
place_of-place-requires-clause-within c =
    let st = call_stands c.self.invariant c.args.call c.in-Some.state.now c.in-Some.ensures.some in
    (st.low, st.within)

pub place_of-place-requires-clause-fits : goal.place_of-place-requires-clause-fits
place_of-place-requires-clause-fits c = λ o at there.
    let s : State = record { links = c.self.inside.links; first = c.self.inside.first; calls = c.self.inside.calls.items } in
    let k = c.self.invariant in
    let state = c.in-Some.state.now in
    let order = c.first_order-order.result in
    let call_is = c.in-Some.ensures.some in
    let own : c.caller-caller.result ≡ state.caller = c.caller-caller.ensures in
    let first : IsFirstOrder state.parts order = record { some = c.first_order-order.ensures.some; none = c.first_order-order.ensures.none } in
    let small : c.self.inside.began < 2 ^ 64 = omega arith in
    call_fits s k c.args.call state order 0 small call_is first (omega arith) o at there

pub note_given_up-requires : goal.note_given_up-requires
note_given_up-requires c = λ o.
    let s : State = record { links = c.self.inside.links; first = c.self.inside.first; calls = c.self.inside.calls.items } in
    let k = c.self.invariant in
    let state = c.in-Some.state.now in
    let order = c.first_order-order.result in
    let call_is = c.in-Some.ensures.some in
    let own : c.caller-caller.result ≡ state.caller = c.caller-caller.ensures in
    let first : IsFirstOrder state.parts order = record { some = c.first_order-order.ensures.some; none = c.first_order-order.ensures.none } in
    let count_is : (length c.parts-count.result.now) ≡ length state.parts = ap length c.parts-count.ensures in
    subst (λ (n : ℕ). c.place_of-place.result + (length c.parts-count.result.now) ≤ end_of (order_of n c.self.inside.callers)) (sym own) (give_within s k c.args.call state order c.place_of-place.result (length c.parts-count.result.now) call_is first count_is c.place_of-place.ensures o)

pub note_over-requires : goal.note_over-requires
note_over-requires c =
    let s : State = record { links = c.self.inside.links; first = c.self.inside.first; calls = c.self.inside.calls.items } in
    let k = c.self.invariant in
    let state = c.in-Some.state.now in
    let order = c.first_order-order.result in
    let call_is = c.in-Some.ensures.some in
    let own : c.caller-caller.result ≡ state.caller = c.caller-caller.ensures in
    let first : IsFirstOrder state.parts order = record { some = c.first_order-order.ensures.some; none = c.first_order-order.ensures.none } in
    let count_is : (length c.parts-count.result.now) ≡ length state.parts = ap length c.parts-count.ensures in
    let wanted : state.is_wanted ≡ true = sym c.is_wanted.ensures ∙ c.if-not-is_wanted.false in
    let old = c.self.inside.callers in
    let mid = c.note_given_up.new.callers in
    let goes : CallGoes state.caller c.place_of-place.result (length c.parts-count.result.now) order old mid = subst (λ (n : ℕ). CallGoes n c.place_of-place.result (length c.parts-count.result.now) order old mid) own c.note_given_up.ensures in
    subst (λ (n : ℕ). is_owed c.args.call (owed_of n mid) ≡ true) (sym own) (give_owed s k c.args.call state order c.place_of-place.result (length c.parts-count.result.now) call_is first count_is c.place_of-place.ensures mid wanted goes.only.owed)

pub invariant_of-self : goal.invariant_of-self
invariant_of-self c =
    let s : State = record { links = c.self.inside.links; first = c.self.inside.first; calls = c.self.inside.calls.items } in
    let k = c.self.invariant in
    let state = c.in-Some.state.now in
    let order = c.first_order-order.result in
    let call_is = c.in-Some.ensures.some in
    let own : c.caller-caller.result ≡ state.caller = c.caller-caller.ensures in
    let first : IsFirstOrder state.parts order = record { some = c.first_order-order.ensures.some; none = c.first_order-order.ensures.none } in
    let count_is : (length c.parts-count.result.now) ≡ length state.parts = ap length c.parts-count.ensures in
    let wanted : state.is_wanted ≡ true = sym c.is_wanted.ensures ∙ c.if-not-is_wanted.false in
    let old = c.self.inside.callers in
    let mid = c.note_given_up.new.callers in
    let goes : CallGoes state.caller c.place_of-place.result (length c.parts-count.result.now) order old mid = subst (λ (n : ℕ). CallGoes n c.place_of-place.result (length c.parts-count.result.now) order old mid) own c.note_given_up.ensures in
    let o = c.note_over.ensures in
    let new = c.note_over.new.self in
    give_kept s k c.args.call state order c.place_of-place.result (length c.parts-count.result.now) call_is first count_is c.place_of-place.ensures c.give_up.new.calls.items mid new wanted c.give_up.ensures goes
    (subst (λ (n : ℕ). Owes (owed_of n mid) (owed_of n new) c.args.call false) own o.owed)
    (subst (λ (n : ℕ). OnlyOwed n mid new) own o.only)

pub returns-clause-gave_up : goal.returns-clause-gave_up
returns-clause-gave_up c = λ _.
    let s : State = record { links = c.self.inside.links; first = c.self.inside.first; calls = c.self.inside.calls.items } in
    let k = c.self.invariant in
    let state = c.in-Some.state.now in
    let order = c.first_order-order.result in
    let call_is = c.in-Some.ensures.some in
    let own : c.caller-caller.result ≡ state.caller = c.caller-caller.ensures in
    let first : IsFirstOrder state.parts order = record { some = c.first_order-order.ensures.some; none = c.first_order-order.ensures.none } in
    let count_is : (length c.parts-count.result.now) ≡ length state.parts = ap length c.parts-count.ensures in
    give_happens s k c.args.call state order c.place_of-place.result (length c.parts-count.result.now) call_is first count_is c.place_of-place.ensures c.args.self.now c.give_up.new.calls.items c.self.view_is c.give_up.ensures

pub returns-clause-wanted : goal.returns-clause-wanted
returns-clause-wanted c = λ _.
    let state = c.in-Some.state.now in
    (state, subst (λ (t : State). call_at c.args.call t ≡ Some state) c.self.view_is c.in-Some.ensures.some, sym c.is_wanted.ensures ∙ c.if-not-is_wanted.false)
