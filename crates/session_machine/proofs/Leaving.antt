-- The parts of a call are forgotten.
use Rattle.std.proofs.Common.{arith, inl, inr, ◌<◌, ◌≡◌, ◌≤◌, ◌+◌, ◌-◌, ℕ, true, false, List, length, Some, refl, sym, ap, ◌∙◌, subst}
use Rattle.std.specs.List.{list_all}
use Rattle.resp_core.proofs.Cases.{by_test}
use Rattle.session_core.specs.declared.part.PartOrder.{PartOrder}
use Rattle.session_core.specs.Order.{IsTrimmed}
use Rattle.session_core.specs.Part.{is_done}
use Rattle.session_core.specs.State.{State, CallState, Leave, numbered, call_at, call_after, link_after, left_call, IsTurn, MayLeave, Happens}
use Rattle.session_core.proofs.AfterEvents.{length-numbered, all_at, same_call}
use Rattle.session_machine.specs.declared.caller.CallPlaces.{CallPlaces}
use Rattle.session_machine.specs.declared.callers.Callers.{Callers}
use Rattle.session_machine.specs.Callers.{order_of, owed_of}
use Rattle.session_machine.specs.Ties.{is_ordered, is_owed}
use Rattle.session_machine.proofs.Ties.Leaves.{IsPast, past_by_last, past_free, tied_left}
use Rattle.session_machine.proofs.Ties.Owed.{turn_by, turn_above, same_owed, owed_kept}
use Rattle.session_machine.specs.Calls.{with_call}
use Rattle.session_machine.specs.Kept.{IsKept, IsPlace}
use Rattle.session_machine.proofs.CallChanges.{left_calls}
use Rattle.session_machine.proofs.Keeping.{state_of, call_stands, place_is, kept_by}
use Rattle.session_machine.proofs.Finishing.{links_stay}
use Rattle.session_machine.proofs.GivingUp.{IsFirstOrder, first_has, none_ordered}
use Rattle.session_machine.specs.Waiting.{IsHeldBack}
use Rattle.std.proofs.lemmas.Option.{same_Some}
use Rattle.std.proofs.lemmas.Bool.{false≢true, cases_order}
use Rattle.session_core.specs.declared.ordered_part.OrderedPart.{OrderedPart}
use Rattle.session_core.specs.Order.{is_done as status_done}
use Rattle.session_core.proofs.Places.{at_within, at_there}
use Rattle.session_machine.proofs.Ties.Parts.{done_status}
use Rattle.session_machine.proofs.Ties.GiveUps.{part_of, part_within}

module _ {places : List CallPlaces} {callers : Callers} {began : ℕ} (s : State) (k : IsKept s places callers began) (call : ℕ) (state : CallState) (order : PartOrder) (place : ℕ) (calls : List CallState)
    (call_is : call_at call s ≡ Some state) (unwanted : state.is_wanted ≡ false) (done : list_all (λ p. is_done p.phase) state.parts ≡ true)
    (next : (other : ℕ) → is_owed other (owed_of state.caller callers) ≡ true → call ≤ other) (calls_are : calls ≡ with_call call s.first (λ _. left_call) s.calls) where
  leave_may : MayLeave call s
  leave_may = record { state = state; call_is = call_is; unwanted = unwanted; done = done; turn = turn_by state.caller call k.owed next }

  pub leave_happens : (now : State) → s ≡ now → Happens now (Leave call) (state_of s.links s.first calls)
  leave_happens now e = subst (λ t. Happens t (Leave call) (state_of s.links s.first calls)) e (record {
    may = leave_may;
    is = ap (λ ls. state_of ls s.first calls) (links_stay (Leave call) s.links (λ n x. refl))
        ∙ ap (state_of (numbered (link_after (Leave call)) 0 s.links) s.first) (calls_are ∙ left_calls call s.first s.calls);
  })

  past : IsFirstOrder state.parts order → IsPlace s.first call (length state.parts - 1) places order place → (is_ordered order ≡ true → place < (order_of state.caller callers).first)
      → IsPast s k.order_places (λ c. order_of c callers) call
  past first at gone = by_test (is_ordered order)
      (λ o.
      let here = place_is k call (length state.parts - 1) place order (call_stands k call state call_is) at o in
      let before = gone o in
      past_by_last k.order_places (λ c. order_of c callers) call state.caller state call_is refl (omega (arith, here, before)))
      (λ f. past_free s k.order_places (λ c. order_of c callers) call (none_ordered call state order k.tied call_is first f))

  pub leave_kept : IsFirstOrder state.parts order → IsPlace s.first call (length state.parts - 1) places order place → (is_ordered order ≡ true → place < (order_of state.caller callers).first)
      → IsKept (state_of s.links s.first calls) places callers began
  leave_kept first at gone =
      kept_by (Leave call) (state_of s.links s.first calls) callers k (leave_happens s refl) refl (length-numbered (call_after (Leave call)) s.first s.calls)
      (tied_left call (λ c. order_of c callers) k.tied leave_may (past first at gone) (λ c. refl))
      (owed_kept (Leave call) (λ c. owed_of c callers) k.owed leave_may refl (λ c n held. refl) (same_owed (λ c. owed_of c callers) (λ c. owed_of c callers) (λ c. refl)))
      (λ c. refl) k.short

-- ---- why it does not leave

pub not_before : {places : List CallPlaces} {callers : Callers} {began : ℕ} (s now : State) (k : IsKept s places callers began) (call : ℕ) (state : CallState) (earlier : ℕ) → s ≡ now → call_at call s ≡ Some state → MayLeave call now
    → is_owed earlier (owed_of state.caller callers) ≡ true → earlier < call → ⊥
not_before s now k call state earlier e call_is may is before =
    let m = subst (λ t. MayLeave call t) (sym e) may in
    let same : m.state ≡ state = same_Some m.state state (sym m.call_is ∙ call_is) in
    let turn = subst (λ (c : CallState). IsTurn s c.caller call) same m.turn in
    let le = turn_above state.caller call earlier k.owed turn is in
    omega (arith, le, before)

-- The last part stands in the order still: the first one that is left there is not done, and of an earlier call.
pub held_back : {places : List CallPlaces} {callers : Callers} {began : ℕ} (s now : State) (k : IsKept s places callers began) (call : ℕ) (state : CallState) (order : PartOrder) (place : ℕ) → s ≡ now → call_at call s ≡ Some state → MayLeave call now
    → IsFirstOrder state.parts order → IsPlace s.first call (length state.parts - 1) places order place → is_ordered order ≡ true
    → (order_of state.caller callers).first ≤ place → IsTrimmed (order_of state.caller callers) → IsHeldBack call now
held_back {callers = callers} s now k call state order place e call_is may first at o low front =
    let m = subst (λ t. MayLeave call t) (sym e) may in
    let caller = state.caller in
    let h = first_has s call state order call_is first o in
    let many : length h.has.state.parts ≡ length state.parts = ap (λ (c : CallState). length c.parts) h.state_is in
    let some = part_within h.has in
    let here = place_is k call (length state.parts - 1) place order (call_stands k call state call_is) at o in
    let last = part_of h.has (length state.parts - 1) (omega (arith, some, many)) in
    let own : is_ordered h.p.order ≡ true = ap is_ordered (sym h.order_is) ∙ o in
    let last_o : is_ordered last.0.order ≡ true = sym (k.tied.alike caller call 0 (length state.parts - 1) h.p last.0 h.has last.1) ∙ own in
    let stands = k.tied.stands caller call (length state.parts - 1) last.0 last.1 last_o (omega (arith, here, low)) in
    let within = at_within (k.order_places call + (length state.parts - 1)) (order_of caller callers).first (order_of caller callers).parts _ stands in
    let x = at_there (order_of caller callers).first (order_of caller callers).first (order_of caller callers).parts (omega arith) (omega (arith, within.0, within.1)) in
    let c = k.tied.comes caller (order_of caller callers).first x.0 x.1 in
    let undone : is_done c.0.phase ≡ false = sym (done_status c.0.phase) ∙ ap (λ (y : OrderedPart). status_done y.status) (sym c.2) ∙ front x.0 x.1 in
    let done : list_all (λ p. is_done p.phase) c.1.state.parts ≡ true → is_done c.0.phase ≡ true = λ all. all_at (λ p. is_done p.phase) c.1.state.parts x.0.seat.part c.0 all c.1.part_is in
    subst (IsHeldBack call) e (record {
      caller = caller;
      part = 0;
      it = h.p;
      has = h.has;
      ordered = own;
      earlier = x.0.seat.call;
      earlier_part = x.0.seat.part;
      other = c.0;
      has_earlier = c.1;
      is_earlier = elim (cases_order x.0.seat.call call) [
        | inl same ↦
            let both : m.state ≡ c.1.state = same_call m.state c.1.state (sym m.call_is ∙ ap (λ n. call_at n s) (sym same) ∙ c.1.call_is) in
            absurd (false≢true (sym undone ∙ done (ap (λ (d : CallState). list_all (λ p. is_done p.phase) d.parts) (sym both) ∙ m.done)))
        | inr apart ↦ elim apart [
          | inl lt ↦ lt
          | inr gt ↦
              let more = k.tied.rising caller call x.0.seat.call (length state.parts - 1) x.0.seat.part last.0 c.0 gt last.1 c.1 last_o c.3 in
              absurd (omega (arith, more, c.4, here, low))
        ]
      ];
      earlier_ordered = c.3;
      undone = undone;
    })
