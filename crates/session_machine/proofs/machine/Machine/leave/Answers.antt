use Rattle.std.proofs.Common.{◌≡◌, ◌<◌, ◌≤◌, ◌-◌, ◌^◌, ℕ, true, false, length, ap, sym, ◌∙◌, subst, arith}
use Rattle.session_core.specs.Order.{IsTrimmed}
use Rattle.session_core.specs.State.{State, CallState, left_call}
use Rattle.session_machine.specs.Callers.{order_of, owed_of}
use Rattle.session_machine.specs.Ties.{is_ordered, is_owed}
use Rattle.session_machine.specs.Calls.{with_call}
use Rattle.session_machine.specs.Kept.{IsPlace}
use Rattle.session_machine.proofs.Keeping.{call_stands}
use Rattle.session_machine.proofs.GivingUp.{IsFirstOrder, call_fits}
use Rattle.session_machine.proofs.Leaving.{leave_happens, leave_kept, not_before, held_back}
use Rattle.session_machine.proofs.machine.Machine.leave.Goals as goal

pub place_of-place-requires-clause-within : goal.place_of-place-requires-clause-within
place_of-place-requires-clause-within c =
    let st = call_stands c.self.invariant c.args.call c.in-Some.state.now c.in-Some.ensures.some in
    (st.low, st.within)

pub place_of-place-requires-clause-fits : goal.place_of-place-requires-clause-fits
place_of-place-requires-clause-fits c = λ o at there.
    let s : State = record { links = c.self.inside.links; first = c.self.inside.first; calls = c.self.inside.calls.items } in
    let k = c.self.invariant in
    let state = c.in-Some.state.now in
    let order = c.first_order-order.result in
    let call_is = c.in-Some.ensures.some in
    let own : c.caller-caller.result ≡ state.caller = c.caller-caller.ensures in
    let first : IsFirstOrder state.parts order = record { some = c.first_order-order.ensures.some; none = c.first_order-order.ensures.none } in
    let last_is : c.saturating_sub-last.result ≡ length state.parts - 1 = c.saturating_sub-last.ensures ∙ ap (λ n. n - 1) (ap length c.parts.ensures) in
    let small : c.self.inside.began < 2 ^ 64 = omega arith in
    let less : c.saturating_sub-last.result ≤ length state.parts = omega (arith, last_is) in
    call_fits s k c.args.call state order c.saturating_sub-last.result small call_is first less o at there

pub invariant_of-self : goal.invariant_of-self
invariant_of-self c =
    let s : State = record { links = c.self.inside.links; first = c.self.inside.first; calls = c.self.inside.calls.items } in
    let k = c.self.invariant in
    let state = c.in-Some.state.now in
    let order = c.first_order-order.result in
    let call_is = c.in-Some.ensures.some in
    let own : c.caller-caller.result ≡ state.caller = c.caller-caller.ensures in
    let first : IsFirstOrder state.parts order = record { some = c.first_order-order.ensures.some; none = c.first_order-order.ensures.none } in
    let last_is : c.saturating_sub-last.result ≡ length state.parts - 1 = c.saturating_sub-last.ensures ∙ ap (λ n. n - 1) (ap length c.parts.ensures) in
    let unwanted : state.is_wanted ≡ false = sym c.is_wanted.ensures ∙ c.if-is_wanted.false in
    let done = sym c.is_done.ensures ∙ c.if-not-is_done.false in
    let old = c.self.inside.callers in
    let next : (other : ℕ) → is_owed other (owed_of state.caller old) ≡ true → c.args.call ≤ other =
    subst (λ (n : ℕ). (other : ℕ) → is_owed other (owed_of n old) ≡ true → c.args.call ≤ other) own (c.owes_before.ensures.no c.if-owes_before.false) in
    let calls_are : c.replace.new.calls.items ≡ with_call c.args.call s.first (λ _. left_call) s.calls = c.replace.ensures ∙ ap (λ (x : CallState). with_call c.args.call s.first (λ _. x) s.calls) c.left.ensures in
    let at : IsPlace s.first c.args.call (length state.parts - 1) c.self.inside.places.items order c.place_of-place.result =
    subst (λ (n : ℕ). IsPlace s.first c.args.call n c.self.inside.places.items order c.place_of-place.result) last_is c.place_of-place.ensures in
    let gone : is_ordered order ≡ true → c.place_of-place.result < (order_of state.caller old).first =
    subst (λ (n : ℕ). is_ordered order ≡ true → c.place_of-place.result < (order_of n old).first) own (c.is_past.ensures.yes c.if-not-is_past.false) in
    leave_kept s k c.args.call state order c.place_of-place.result c.replace.new.calls.items call_is unwanted done next calls_are first at gone

pub returns-clause-left : goal.returns-clause-left
returns-clause-left c = λ _.
    let s : State = record { links = c.self.inside.links; first = c.self.inside.first; calls = c.self.inside.calls.items } in
    let k = c.self.invariant in
    let state = c.in-Some.state.now in
    let order = c.first_order-order.result in
    let call_is = c.in-Some.ensures.some in
    let own : c.caller-caller.result ≡ state.caller = c.caller-caller.ensures in
    let first : IsFirstOrder state.parts order = record { some = c.first_order-order.ensures.some; none = c.first_order-order.ensures.none } in
    let last_is : c.saturating_sub-last.result ≡ length state.parts - 1 = c.saturating_sub-last.ensures ∙ ap (λ n. n - 1) (ap length c.parts.ensures) in
    let unwanted : state.is_wanted ≡ false = sym c.is_wanted.ensures ∙ c.if-is_wanted.false in
    let done = sym c.is_done.ensures ∙ c.if-not-is_done.false in
    let old = c.self.inside.callers in
    let next : (other : ℕ) → is_owed other (owed_of state.caller old) ≡ true → c.args.call ≤ other =
    subst (λ (n : ℕ). (other : ℕ) → is_owed other (owed_of n old) ≡ true → c.args.call ≤ other) own (c.owes_before.ensures.no c.if-owes_before.false) in
    let calls_are : c.replace.new.calls.items ≡ with_call c.args.call s.first (λ _. left_call) s.calls = c.replace.ensures ∙ ap (λ (x : CallState). with_call c.args.call s.first (λ _. x) s.calls) c.left.ensures in
    leave_happens s k c.args.call state order c.place_of-place.result c.replace.new.calls.items call_is unwanted done next calls_are c.args.self.now c.self.view_is

pub returns-then-owes_before-clause-why : goal.returns-then-owes_before-clause-why
returns-then-owes_before-clause-why c = λ _ may.
    let s : State = record { links = c.self.inside.links; first = c.self.inside.first; calls = c.self.inside.calls.items } in
    let k = c.self.invariant in
    let state = c.in-Some.state.now in
    let owed = c.owes_before.ensures.yes c.if-owes_before.true in
    let is : is_owed owed.0 (owed_of state.caller c.self.inside.callers) ≡ true = ap (λ n. is_owed owed.0 (owed_of n c.self.inside.callers)) (sym c.caller-caller.ensures) ∙ owed.1 in
    absurd (not_before s c.args.self.now k c.args.call state owed.0 c.self.view_is c.in-Some.ensures.some may is owed.2)

pub returns-then-not-is_past-clause-why : goal.returns-then-not-is_past-clause-why
returns-then-not-is_past-clause-why c = λ _ may.
    let s : State = record { links = c.self.inside.links; first = c.self.inside.first; calls = c.self.inside.calls.items } in
    let k = c.self.invariant in
    let state = c.in-Some.state.now in
    let order = c.first_order-order.result in
    let first : IsFirstOrder state.parts order = record { some = c.first_order-order.ensures.some; none = c.first_order-order.ensures.none } in
    let own : c.caller-caller.result ≡ state.caller = c.caller-caller.ensures in
    let last_is : c.saturating_sub-last.result ≡ length state.parts - 1 = c.saturating_sub-last.ensures ∙ ap (λ n. n - 1) (ap length c.parts.ensures) in
    let at : IsPlace s.first c.args.call (length state.parts - 1) c.self.inside.places.items order c.place_of-place.result =
    subst (λ (n : ℕ). IsPlace s.first c.args.call n c.self.inside.places.items order c.place_of-place.result) last_is c.place_of-place.ensures in
    let no = c.is_past.ensures.no c.if-not-is_past.true in
    held_back s c.args.self.now k c.args.call state order c.place_of-place.result c.self.view_is c.in-Some.ensures.some may first at no.0
    (subst (λ (n : ℕ). (order_of n c.self.inside.callers).first ≤ c.place_of-place.result) own no.1)
    (subst (λ (n : ℕ). IsTrimmed (order_of n c.self.inside.callers)) own no.2)
