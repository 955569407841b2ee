-- A part that waits is not asked any more.
use Rattle.std.proofs.Common.{◌≡◌, ℕ, true, List, refl, sym, ap, ◌∙◌, subst}
use Rattle.session_core.specs.declared.ordered_part.Status.TheVariants.{Unsent}
use Rattle.session_core.specs.declared.part.Cause.{Cause}
use Rattle.session_core.specs.Order.{IsWaiting}
use Rattle.session_core.specs.Part.{PartState, phase_ended}
use Rattle.session_core.specs.State.{State, CallState, End, numbered, call_after, link_after, MayEnd, Happens}
use Rattle.session_core.proofs.AfterEvents.{length-numbered}
use Rattle.session_core.proofs.Waiting.{part_is, that_waits}
use Rattle.session_machine.specs.declared.caller.CallPlaces.{CallPlaces}
use Rattle.session_machine.specs.declared.callers.Callers.{Callers}
use Rattle.session_machine.specs.Callers.{order_of}
use Rattle.session_machine.specs.Ties.{is_ordered, status_of}
use Rattle.session_machine.proofs.Ties.Asks.{stands_waiting}
use Rattle.session_machine.proofs.Ties.Links.{only_ended, ended_phase}
use Rattle.session_machine.specs.Calls.{with_call, with_phase}
use Rattle.session_machine.specs.Waiting.{WaitsThere}
use Rattle.session_machine.specs.Kept.{IsKept, IsPlace, PartGoes}
use Rattle.session_machine.proofs.CallChanges.{ended_calls}
use Rattle.session_machine.proofs.Keeping.{state_of, call_stands, place_is, kept_part}
use Rattle.session_machine.proofs.Asking.{has_of}
use Rattle.session_machine.proofs.Finishing.{links_stay}

pub end_happens : (s now : State) (call part : ℕ) (cause : Cause) (state : CallState) (p : PartState) (calls : List CallState) → s ≡ now → WaitsThere s.first call part s.calls state p → MayEnd s call part cause
    → calls ≡ with_call call s.first (with_phase part (λ state p. phase_ended cause p.phase)) s.calls → Happens now (End call part cause) (state_of s.links s.first calls)
end_happens s now call part cause state p calls e w may is = subst (λ t. Happens t (End call part cause) (state_of s.links s.first calls)) e (record {
  may = (p, part_is state.caller call part s p (has_of s call part state p w), w.waits, may);
  is = ap (λ ls. state_of ls s.first calls) (links_stay (End call part cause) s.links (λ n x. refl))
      ∙ ap (state_of (numbered (link_after (End call part cause)) 0 s.links) s.first) (is ∙ ended_calls call part s.first cause s.calls);
})

pub end_waiting : {places : List CallPlaces} {callers : Callers} {began : ℕ} (s : State) (call part place : ℕ) (state : CallState) (p : PartState) (k : IsKept s places callers began) → WaitsThere s.first call part s.calls state p
    → IsPlace s.first call part places p.order place → is_ordered p.order ≡ true → IsWaiting place (order_of state.caller callers)
end_waiting {callers = callers} s call part place state p k w at o =
    subst (λ (n : ℕ). IsWaiting n (order_of state.caller callers)) (sym (place_is k call part place p.order (call_stands k call state w.call_is) at o)) (stands_waiting k.tied (has_of s call part state p w) o w.waits)

pub end_kept : {places : List CallPlaces} {callers : Callers} {began : ℕ} (s : State) (call part place : ℕ) (cause : Cause) (state : CallState) (p : PartState) (calls : List CallState) (new : Callers) (k : IsKept s places callers began) → WaitsThere s.first call part s.calls state p → MayEnd s call part cause
    → IsPlace s.first call part places p.order place → calls ≡ with_call call s.first (with_phase part (λ state p. phase_ended cause p.phase)) s.calls → PartGoes state.caller place p.order Unsent callers new → IsKept (state_of s.links s.first calls) places new began
end_kept s call part place cause state p calls new k w may at is goes =
    let waits = that_waits p.phase w.waits in
    kept_part (End call part cause) (state_of s.links s.first calls) new place Unsent k (end_happens s s call part cause state p calls refl w may is) tt (only_ended call part cause) (has_of s call part state p w)
    (ap status_of (ended_phase call part cause state.is_wanted p) ∙ ap (λ f. status_of (phase_ended cause f)) waits.1)
    (place_is k call part place p.order (call_stands k call state w.call_is) at) goes refl (length-numbered (call_after (End call part cause)) s.first s.calls) (λ n. refl)
