-- A part is asked on a link.
use Rattle.std.proofs.Common.{◌≡◌, ◌+◌, ℕ, Bool, true, false, inl, inr, List, Option, refl, sym, ap, ◌∙◌, subst}
use Rattle.resp_core.proofs.Cases.{by_test}
use Rattle.session_core.specs.declared.ordered_part.Status.TheVariants as status
use Rattle.session_core.specs.Channel.{Channel}
use Rattle.session_core.specs.LinkEvents as link
use Rattle.session_core.specs.Order as order
use Rattle.session_core.specs.Part.{PartState, phase_asked}
use Rattle.session_core.specs.State.{State, CallState, On, numbered, call_after, Has, MayAsk, MayPut, Happens}
use Rattle.session_core.proofs.AfterEvents.{length-numbered}
use Rattle.session_core.proofs.Puts.{part_alone, part_after_asking}
use Rattle.session_core.proofs.Waiting.{that_waits}
use Rattle.session_machine.specs.declared.caller.CallPlaces.{CallPlaces}
use Rattle.session_machine.specs.declared.callers.Callers.{Callers}
use Rattle.session_machine.specs.Callers.{order_of}
use Rattle.session_machine.specs.Ties.{is_ordered, status_of}
use Rattle.session_machine.proofs.Ties.Asks.{asks_by_order, order_asks, free_asks}
use Rattle.session_machine.proofs.Ties.Links.{IsAskOf, only_asked, asked_phase}
use Rattle.session_machine.specs.Calls.{with_call, with_phase}
use Rattle.session_machine.specs.Links.{HappensOn}
use Rattle.session_machine.specs.Puts.{put_for}
use Rattle.session_machine.specs.Waiting.{WaitsThere}
use Rattle.session_machine.specs.Kept.{IsKept, IsPlace, PartGoes}
use Rattle.session_machine.proofs.CallChanges.{asked_calls, asking_calls}
use Rattle.session_machine.proofs.Keeping.{state_of, call_stands, place_is, kept_part, happens_in}

abbrev pub has_of : (s : State) (call part : ℕ) (state : CallState) (p : PartState) → WaitsThere s.first call part s.calls state p → Has s state.caller call part p
has_of s call part state p w = record { state = state; call_is = w.call_is; caller_is = refl; part_is = w.part_is }

ask_of : (asks : Bool) (call part : ℕ) (request : List ℕ) → IsAskOf call part request (put_for asks call part request)
ask_of true call part request = inr refl
ask_of false call part request = inl refl

may_put : (asks : Bool) (s : State) (number call part : ℕ) (request : List ℕ) → MayAsk s number call part request → MayPut s number (link.Put (put_for asks call part request))
may_put true s number call part request may = part_after_asking s number call part request may
may_put false s number call part request may = part_alone s number call part request may

put_calls : (asks : Bool) (number call part first : ℕ) (request : List ℕ) (calls : List CallState)
    → with_call call first (with_phase part (λ state p. phase_asked number p.phase)) calls ≡ numbered (call_after (On number (link.Put (put_for asks call part request)))) first calls
put_calls true number call part first request calls = asking_calls number call part first request calls
put_calls false number call part first request calls = asked_calls number call part first request calls

abbrev Offered : (s : State) (callers : Callers) (place link caller : ℕ) (p : PartState) → Type 0
Offered s callers place link caller p = is_ordered p.order ≡ true → order.MayAsk place link (order_of caller callers)

pub may_be_asked : {places : List CallPlaces} {callers : Callers} {began : ℕ} (s : State) (number call part place : ℕ) (state : CallState) (p : PartState) (k : IsKept s places callers began) → WaitsThere s.first call part s.calls state p
    → state.is_wanted ≡ true → IsPlace s.first call part places p.order place → Offered s callers place number state.caller p → MayAsk s number call part p.request
may_be_asked {callers = callers} s number call part place state p k w wanted at offered =
    let has = has_of s call part state p w in
    by_test (is_ordered p.order)
    (λ o.
    let here : place ≡ k.order_places call + part = place_is k call part place p.order (call_stands k call state w.call_is) at o in
    asks_by_order number k.tied has o wanted (subst (λ (n : ℕ). order.MayAsk n number (order_of state.caller callers)) here (offered o)))
    (λ f. free_asks number has f wanted w.waits)

-- It is not asked: the order does not let it.
pub not_offered : {places : List CallPlaces} {callers : Callers} {began : ℕ} (s now : State) (number call part place : ℕ) (state : CallState) (p : PartState) (request : List ℕ) → s ≡ now → (k : IsKept s places callers began) → WaitsThere s.first call part s.calls state p
    → IsPlace s.first call part places p.order place → (is_ordered p.order ≡ true) × (order.MayAsk place number (order_of state.caller callers) → ⊥) → MayAsk now number call part request → ⊥
not_offered {callers = callers} s now number call part place state p request e k w at never m =
    let may = subst (λ t. MayAsk t number call part request) (sym e) m in
    let here : place ≡ k.order_places call + part = place_is k call part place p.order (call_stands k call state w.call_is) at never.0 in
    never.1 (subst (λ (n : ℕ). order.MayAsk n number (order_of state.caller callers)) (sym here) (order_asks number k.tied (has_of s call part state p w) never.0 may))

-- It is asked.
pub put_happens : {places : List CallPlaces} {callers : Callers} {began : ℕ} (asks : Bool) (s now : State) (number call part place : ℕ) (state : CallState) (p : PartState) (links : List (Option Channel)) (calls : List CallState) → s ≡ now → (k : IsKept s places callers began) → WaitsThere s.first call part s.calls state p
    → state.is_wanted ≡ true → IsPlace s.first call part places p.order place → Offered s callers place number state.caller p → HappensOn number (link.Put (put_for asks call part p.request)) s.links links
    → calls ≡ with_call call s.first (with_phase part (λ state p. phase_asked number p.phase)) s.calls → Happens now (On number (link.Put (put_for asks call part p.request))) (state_of links s.first calls)
put_happens asks s now number call part place state p links calls e k w wanted at offered h is =
    happens_in s now number (link.Put (put_for asks call part p.request)) links calls e h
    (may_put asks s number call part p.request (may_be_asked s number call part place state p k w wanted at offered))
    (is ∙ put_calls asks number call part s.first p.request s.calls)

pub put_kept : {places : List CallPlaces} {callers : Callers} {began : ℕ} (asks : Bool) (s : State) (number call part place : ℕ) (state : CallState) (p : PartState) (links : List (Option Channel)) (calls : List CallState) (new : Callers) (k : IsKept s places callers began) → WaitsThere s.first call part s.calls state p
    → state.is_wanted ≡ true → IsPlace s.first call part places p.order place → Offered s callers place number state.caller p → HappensOn number (link.Put (put_for asks call part p.request)) s.links links
    → calls ≡ with_call call s.first (with_phase part (λ state p. phase_asked number p.phase)) s.calls → PartGoes state.caller place p.order (status.Asked number) callers new → IsKept (state_of links s.first calls) places new began
put_kept asks s number call part place state p links calls new k w wanted at offered h is goes =
    let e = On number (link.Put (put_for asks call part p.request)) in
    let requests = put_for asks call part p.request in
    let waits = that_waits p.phase w.waits in
    kept_part e (state_of links s.first calls) new place (status.Asked number) k (put_happens asks s s number call part place state p links calls refl k w wanted at offered h is) tt
    (only_asked number call part p.request requests (ask_of asks call part p.request)) (has_of s call part state p w)
    (ap status_of (asked_phase number call part p.request requests state.is_wanted p (ask_of asks call part p.request)) ∙ ap (λ f. status_of (phase_asked number f)) waits.1)
    (place_is k call part place p.order (call_stands k call state w.call_is) at) goes refl (length-numbered (call_after e) s.first s.calls) (λ n. refl)
