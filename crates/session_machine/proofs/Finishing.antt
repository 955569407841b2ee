-- The reply to a call is made.
use Rattle.std.proofs.Common.{◌≡◌, ℕ, true, false, not, inl, inr, List, Option, Some, refl, sym, ap, ◌∙◌, subst, arith}
use Rattle.std.specs.List.{list_all}
use Rattle.std.proofs.lemmas.Bool.{false≢true, cases_eq}
use Rattle.std.proofs.lemmas.Option.{same_Some}
use Rattle.session_core.specs.Channel.{Channel}
use Rattle.session_core.specs.Part.{is_waiting}
use Rattle.session_core.specs.State.{State, CallState, Event, Finish, numbered, call_at, call_after, link_after, IsTurn, MayFinish, Happens}
use Rattle.session_core.proofs.AfterEvents.{numbered_same, length-numbered}
use Rattle.session_machine.specs.declared.caller.CallPlaces.{CallPlaces}
use Rattle.session_machine.specs.declared.callers.Callers.{Callers}
use Rattle.session_machine.specs.Callers.{order_of, owed_of, OthersKept, OnlyOwed}
use Rattle.session_machine.specs.Ties.{Owes, IsFirstOwed, is_owed, end_of}
use Rattle.session_machine.proofs.Ties.Links.{tied_quiet}
use Rattle.session_machine.proofs.Ties.Owed.{IsHeld, held_of, turn_by, turn_is_first, owed_finished}
use Rattle.session_machine.specs.Calls.{with_call, replied}
use Rattle.session_machine.specs.Kept.{IsKept}
use Rattle.session_machine.proofs.CallChanges.{replied_calls}
use Rattle.session_machine.proofs.Keeping.{state_of, kept_by}

-- an event that is none of links
pub links_stay : (e : Event) (links : List (Option Channel)) → ((n : ℕ) (x : Option Channel) → link_after e n x ≡ x) → links ≡ numbered (link_after e) 0 links
links_stay e links same = sym (numbered_same (link_after e) 0 links (λ n x le. same n x))

pub same_orders : (caller : ℕ) (old new : Callers) → order_of caller new ≡ order_of caller old → OthersKept caller old new → (other : ℕ) → order_of other new ≡ order_of other old
same_orders caller old new own kept other = elim (cases_eq other caller) [
  | inl same ↦ subst (λ (n : ℕ). order_of n new ≡ order_of n old) (sym same) own
  | inr apart ↦ kept.order other apart
]

module _ {places : List CallPlaces} {callers : Callers} {began : ℕ} (s : State) (k : IsKept s places callers began) (call : ℕ) (state : CallState) (calls : List CallState)
    (call_is : call_at call s ≡ Some state) (wanted : state.is_wanted ≡ true) (none_waits : list_all (λ p. not (is_waiting p.phase)) state.parts ≡ true)
    (first : IsFirstOwed call (owed_of state.caller callers)) (calls_are : calls ≡ with_call call s.first replied s.calls) where
  finish_may : MayFinish call state s
  finish_may = record {
    call_is = call_is;
    wanted = wanted;
    none_waits = none_waits;
    turn = turn_by state.caller call k.owed first.least;
  }

  pub finish_happens : (now : State) → s ≡ now → Happens now (Finish call state) (state_of s.links s.first calls)
  finish_happens now e = subst (λ t. Happens t (Finish call state) (state_of s.links s.first calls)) e (record {
    may = finish_may;
    is = ap (λ ls. state_of ls s.first calls) (links_stay (Finish call state) s.links (λ n x. refl))
        ∙ ap (state_of (numbered (link_after (Finish call state)) 0 s.links) s.first) (calls_are ∙ replied_calls call s.first state s.calls);
  })

  pub finish_kept : (new : Callers) → Owes (owed_of state.caller callers) (owed_of state.caller new) call false
      → OnlyOwed state.caller callers new → IsKept (state_of s.links s.first calls) places new began
  finish_kept new owed only =
      let held : IsHeld s state.caller call = record { state = state; call_is = call_is; caller_is = refl; wanted = wanted } in
      kept_by (Finish call state) (state_of s.links s.first calls) new k (finish_happens s refl) refl (length-numbered (call_after (Finish call state)) s.first s.calls)
      (tied_quiet (Finish call state) (λ c. order_of c new) k.tied finish_may tt only.order)
      (owed_finished state (λ c. owed_of c new) k.owed finish_may held (record { owed = owed; others = only.owed }))
      only.last
      (λ c. let end : end_of (order_of c new) ≡ end_of (order_of c callers) = ap end_of (only.order c) in omega (arith, end, k.short c))

-- ---- why it may not be finished

pub finish_wants : (s now : State) (call : ℕ) (state it : CallState) → s ≡ now → call_at call s ≡ Some it → MayFinish call state now → state ≡ it
finish_wants s now call state it e is may =
    same_Some state it (sym may.call_is ∙ ap (call_at call) (sym e) ∙ is)

pub finish_first : {places : List CallPlaces} {callers : Callers} {began : ℕ} (s now : State) (k : IsKept s places callers began) (call first : ℕ) (state it : CallState) → s ≡ now → call_at call s ≡ Some it → MayFinish call state now
    → IsFirstOwed first (owed_of it.caller callers) → first ≡ call
finish_first {callers = callers} s now k call first state it e is may f =
    let m = subst (λ t. MayFinish call state t) (sym e) may in
    let same = finish_wants s now call state it e is may in
    turn_is_first state.caller call first k.owed (record { state = state; call_is = m.call_is; caller_is = refl; wanted = m.wanted }) m.turn
    (subst (λ (c : CallState). IsFirstOwed first (owed_of c.caller callers)) (sym same) f)

-- no call of the caller waits for its reply
pub finish_none : {places : List CallPlaces} {callers : Callers} {began : ℕ} (s now : State) (k : IsKept s places callers began) (call : ℕ) (state it : CallState) → s ≡ now → call_at call s ≡ Some it → MayFinish call state now
    → is_owed call (owed_of it.caller callers) ≡ false → ⊥
finish_none {callers = callers} s now k call state it e is may none =
    let same = finish_wants s now call state it e is may in
    let wanted : it.is_wanted ≡ true = ap (λ (c : CallState). c.is_wanted) (sym same) ∙ may.wanted in
    false≢true (sym none ∙ k.owed.wanted call it is wanted)

-- ---- whose reply is next

pub next_held : {places : List CallPlaces} {callers : Callers} {began : ℕ} (s now : State) (k : IsKept s places callers began) (caller first : ℕ) → s ≡ now → IsFirstOwed first (owed_of caller callers)
    → (state : CallState) × (call_at first now ≡ Some state) × (state.caller ≡ caller) × (state.is_wanted ≡ true) × IsTurn now caller first
next_held s now k caller first e f =
    let h = held_of caller first k.owed f.is in
    subst (λ t. (state : CallState) × (call_at first t ≡ Some state) × (state.caller ≡ caller) × (state.is_wanted ≡ true) × IsTurn t caller first) e
    (h.state, h.call_is, h.caller_is, h.wanted, turn_by caller first k.owed f.least)

pub next_none : {places : List CallPlaces} {callers : Callers} {began : ℕ} (s now : State) (k : IsKept s places callers began) (caller : ℕ) → s ≡ now → ((call : ℕ) → is_owed call (owed_of caller callers) ≡ false)
    → (call : ℕ) (state : CallState) → call_at call now ≡ Some state → state.caller ≡ caller → state.is_wanted ≡ true → ⊥
next_none {callers = callers} s now k caller e none call state is own wanted =
    false≢true (sym (none call) ∙ subst (λ c. is_owed call (owed_of c callers) ≡ true) own (k.owed.wanted call state (ap (call_at call) e ∙ is) wanted))
