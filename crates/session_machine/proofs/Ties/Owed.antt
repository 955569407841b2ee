-- Which replies callers are owed, and whose turn it is.
use Rattle.std.proofs.Common.{◌≡◌, ◌≢◌, ◌<◌, ◌≤◌, ◌&&◌, ◌⊎◌, inl, inr, ℕ, Bool, true, false, not, List, None, Some, refl, sym, ap, ◌∙◌, subst, arith}
use Rattle.std.proofs.lemmas.Bool.{false≢true, eq-eqb, cases_lt, cases_eq}
use Rattle.resp_core.proofs.Cases.{and_first, and_second}
use Rattle.session_core.specs.LinkEvents as link
use Rattle.session_core.specs.Part.{PartState}
use Rattle.session_core.specs.State.{CallState, State, Event, Begin, GiveUp, Finish, IsTurn, start, begun, call_at, unwants, May, after}
use Rattle.session_core.proofs.AfterEvents.{has_begun, not_begun, new_calls, begun_after, call_goes, call_came, call_new, begins, same_call}
use Rattle.session_core.proofs.Turns.{not_true}
use Rattle.session_machine.specs.Ties.{Owes, AreOwed, IsFirstOwed, is_owed, no_owed}
use Rattle.session_machine.proofs.Numbers.{other_number}

-- ---- a call, before an event and after it

-- It is there, is this caller's and is wanted.
pub record IsHeld (s : State) (caller call : ℕ) : Type 0 where
  pub state : CallState
  pub call_is : call_at call s ≡ Some state
  pub caller_is : state.caller ≡ caller
  pub wanted : state.is_wanted ≡ true

-- a call that is wanted after an event which begins none was wanted before
pub held_before : {s : State} {caller call : ℕ} (e : Event) → May e s → call < begun s → IsHeld (after e s) caller call → IsHeld s caller call × (unwants call e ≡ false)
held_before {s = s} {call = call} e may bound w = elim (call_came link.May e call s w.state may bound w.call_is) [
  | inl c ↦
      let both : (c.0.is_wanted && not (unwants call e)) ≡ true = sym c.2.wanted ∙ w.wanted in (
        record { state = c.0; call_is = c.1; caller_is = sym c.2.caller ∙ w.caller_is; wanted = and_first _ _ both },
        not_true (unwants call e) (and_second _ _ both),
      )
  | inr left ↦ absurd (false≢true (sym (ap (λ (x : CallState). x.is_wanted) left) ∙ w.wanted))
]

held_after : {s : State} {caller call : ℕ} (e : Event) → May e s → unwants call e ≡ false → IsHeld s caller call → IsHeld (after e s) caller call
held_after {s = s} {call = call} e may kept w = elim (call_goes link.May e call s w.state may w.call_is) [
  | inl d ↦ record { state = d.0; call_is = d.1; caller_is = d.2.caller ∙ w.caller_is; wanted = d.2.wanted ∙ rw (w.wanted, kept) refl }
  | inr v ↦ absurd (false≢true (sym v.unwanted ∙ w.wanted))
]

pub held_bound : {caller call : ℕ} (s : State) (e : Event) → May e s → new_calls e ≡ 0 → IsHeld (after e s) caller call → call < begun s
held_bound {call = call} s e may none w = omega (arith, has_begun call (after e s) w.state w.call_is, begun_after link.May e s may, none)

one_held : {s : State} {caller other call : ℕ} → IsHeld s caller call → IsHeld s other call → caller ≡ other
one_held a b = sym a.caller_is ∙ ap (λ (c : CallState). c.caller) (same_call a.state b.state (sym a.call_is ∙ b.call_is)) ∙ b.caller_is

-- ---- what is owed, by caller

pub held_owed : {s : State} {owed : ℕ → List ℕ} {caller call : ℕ} → AreOwed s owed → IsHeld s caller call → is_owed call (owed caller) ≡ true
held_owed {owed = owed} {call = call} o w = subst (λ c. is_owed call (owed c) ≡ true) w.caller_is (o.wanted call w.state w.call_is w.wanted)

pub held_of : {s : State} {owed : ℕ → List ℕ} (caller call : ℕ) → AreOwed s owed → is_owed call (owed caller) ≡ true → IsHeld s caller call
held_of caller call o is = let c = o.comes caller call is in record { state = c.0; call_is = c.1; caller_is = c.2; wanted = c.3 }

-- It is the turn of a call if no reply to an earlier one is owed to its caller.
pub turn_by : {s : State} {owed : ℕ → List ℕ} (caller call : ℕ) → AreOwed s owed → ((n : ℕ) → is_owed n (owed caller) ≡ true → call ≤ n) → IsTurn s caller call
turn_by {owed = owed} caller call o least = λ n state lt is own. unwanted n state.is_wanted lt (λ w. subst (λ c. is_owed n (owed c) ≡ true) own (o.wanted n state is w))
  where
    unwanted : (n : ℕ) (wanted : Bool) → n < call → (wanted ≡ true → is_owed n (owed caller) ≡ true) → wanted ≡ false
    unwanted n false lt at = refl
    unwanted n true lt at = let le = least n (at refl) in absurd (omega (arith, le, lt))

-- No reply to an earlier call is owed to a caller if it is the turn of this call.
pub turn_above : {s : State} {owed : ℕ → List ℕ} (caller call other : ℕ) → AreOwed s owed → IsTurn s caller call → is_owed other (owed caller) ≡ true → call ≤ other
turn_above caller call other o turn is = elim (cases_lt other call) [
  | inl lt ↦ let h = held_of caller other o is in absurd (false≢true (sym (turn other h.state lt h.call_is h.caller_is) ∙ h.wanted))
  | inr ge ↦ ge
]

-- The reply to a call that is wanted, and whose turn it is, is next.
pub turn_is_first : {s : State} {owed : ℕ → List ℕ} (caller call first : ℕ) → AreOwed s owed → IsHeld s caller call → IsTurn s caller call → IsFirstOwed first (owed caller) → first ≡ call
turn_is_first caller call first o held turn f =
    let low = turn_above caller call first o turn f.is in
    let least = f.least call (held_owed o held) in
    omega (arith, low, least)

-- ---- events that end no call which is wanted

-- Each caller is owed the same replies.
abbrev pub AreSameOwed : (ℕ → List ℕ) → (ℕ → List ℕ) → Type 0
AreSameOwed old new = (caller call : ℕ) → is_owed call (new caller) ≡ is_owed call (old caller)

pub same_owed : (old new : ℕ → List ℕ) → ((caller : ℕ) → new caller ≡ old caller) → AreSameOwed old new
same_owed old new same = λ caller call. ap (is_owed call) (same caller)

pub owed_kept : {s : State} {owed : ℕ → List ℕ} (e : Event) (new : ℕ → List ℕ) → AreOwed s owed → May e s → new_calls e ≡ 0
    → ((caller call : ℕ) → IsHeld s caller call → unwants call e ≡ false) → AreSameOwed owed new → AreOwed (after e s) new
owed_kept {s = s} {owed = owed} e new o may none stays same = record {
  wanted = λ call state is w.
      let now : IsHeld (after e s) state.caller call = record { state = state; call_is = is; caller_is = refl; wanted = w } in
      let was = held_before e may (held_bound s e may none now) now in
      same state.caller call ∙ held_owed o was.0;
  comes = λ caller call is.
      let was = held_of caller call o (sym (same caller call) ∙ is) in
      let now = held_after e may (stays caller call was) was in
      (now.state, now.call_is, now.caller_is, now.wanted);
}

-- ---- a call is owed its reply no more

-- The caller is owed the same replies but the one to this call, and others the same.
pub record IsOver (caller call : ℕ) (old new : ℕ → List ℕ) : Type 0 where
  pub owed : Owes (old caller) (new caller) call false
  pub others : (other : ℕ) → other ≢ caller → new other ≡ old other

pub owed_over : {s : State} {owed : ℕ → List ℕ} {caller call : ℕ} (e : Event) (new : ℕ → List ℕ) → AreOwed s owed → May e s → new_calls e ≡ 0 → IsHeld s caller call
    → unwants call e ≡ true → ((n : ℕ) → n ≢ call → unwants n e ≡ false) → IsOver caller call owed new → AreOwed (after e s) new
owed_over {s = s} {owed = owed} {caller = caller} {call = call} e new o may none held ends only over = record {
  wanted = λ n state is w.
      let now : IsHeld (after e s) state.caller n = record { state = state; call_is = is; caller_is = refl; wanted = w } in
      let was = held_before e may (held_bound s e may none now) now in
      let ne : n ≢ call = λ same. false≢true (sym was.1 ∙ ap (λ m. unwants m e) same ∙ ends) in
      elim (cases_eq state.caller caller) [
        | inl own ↦ subst (λ c. is_owed n (new c) ≡ true) (sym own) (over.owed.others n ne ∙ subst (λ c. is_owed n (owed c) ≡ true) own (held_owed o was.0))
        | inr other ↦ ap (is_owed n) (over.others state.caller other) ∙ held_owed o was.0
      ];
  comes = λ c n is.
      let was = old c n is in
      let now = held_after e may (only n was.1) was.0 in
      (now.state, now.call_is, now.caller_is, now.wanted);
}
  where
    old : (c n : ℕ) → is_owed n (new c) ≡ true → IsHeld s c n × (n ≢ call)
    old c n is = elim (cases_eq c caller) [
      | inl own ↦
          let here : is_owed n (new caller) ≡ true = subst (λ m. is_owed n (new m) ≡ true) own is in
          let ne : n ≢ call = λ same. false≢true (sym over.owed.here ∙ subst (λ m. is_owed m (new caller) ≡ true) same here) in
          (held_of c n o (subst (λ m. is_owed n (owed m) ≡ true) (sym own) (sym (over.owed.others n ne) ∙ here)), ne)
      | inr other ↦
          let was = held_of c n o (ap (is_owed n) (sym (over.others c other)) ∙ is) in
          (was, λ same. other (one_held (subst (λ m. IsHeld s c m) same was) held))
    ]

pub owed_finished : {s : State} {owed : ℕ → List ℕ} {caller call : ℕ} (state : CallState) (new : ℕ → List ℕ) → AreOwed s owed → May (Finish call state) s → IsHeld s caller call
    → IsOver caller call owed new → AreOwed (after (Finish call state) s) new
owed_finished {call = call} state new o may held over = owed_over (Finish call state) new o may refl held (eq-eqb call call refl) (λ n ne. other_number call n ne) over

pub owed_given_up : {s : State} {owed : ℕ → List ℕ} {caller call : ℕ} (new : ℕ → List ℕ) → AreOwed s owed → May (GiveUp call) s → IsHeld s caller call
    → IsOver caller call owed new → AreOwed (after (GiveUp call) s) new
owed_given_up {call = call} new o may held over = owed_over (GiveUp call) new o may refl held (eq-eqb call call refl) (λ n ne. other_number call n ne) over

-- ---- a call begins

-- each call that is owed a reply is before one that is to begin
pub owed_before : {s : State} {owed : ℕ → List ℕ} (caller call : ℕ) → AreOwed s owed → begun s ≤ call → (n : ℕ) → is_owed n (owed caller) ≡ true → n < call
owed_before {s = s} caller call o new n is = let w = held_of caller n o is in let lt = has_begun n s w.state w.call_is in omega (arith, lt, new)

-- The caller is owed the reply to this call, too, and others the same.
pub record IsMore (caller call : ℕ) (old new : ℕ → List ℕ) : Type 0 where
  pub owed : Owes (old caller) (new caller) call true
  pub others : (other : ℕ) → other ≢ caller → new other ≡ old other

module _ {s : State} {owed : ℕ → List ℕ} (call caller : ℕ) (parts : List PartState) (new : ℕ → List ℕ) (o : AreOwed s owed) (may : May (Begin call caller parts) s) (more : IsMore caller call owed new) where
  -- what was owed is owed
  kept_reply : (c n : ℕ) → n ≢ call → is_owed n (owed c) ≡ true → is_owed n (new c) ≡ true
  kept_reply c n ne was = elim (cases_eq c caller) [
    | inl own ↦ subst (λ m. is_owed n (new m) ≡ true) (sym own) (more.owed.others n ne ∙ subst (λ m. is_owed n (owed m) ≡ true) own was)
    | inr other ↦ ap (is_owed n) (more.others c other) ∙ was
  ]

  -- what is owed was owed, or is for the call that began
  new_reply : (c n : ℕ) → is_owed n (new c) ≡ true → (is_owed n (owed c) ≡ true) ⊎ ((c ≡ caller) × (n ≡ call))
  new_reply c n now = elim (cases_eq c caller) [
    | inl own ↦ elim (cases_eq n call) [
      | inl same ↦ inr (own, same)
      | inr ne ↦ inl (subst (λ m. is_owed n (owed m) ≡ true) (sym own) (sym (more.owed.others n ne) ∙ subst (λ m. is_owed n (new m) ≡ true) own now))
    ]
    | inr other ↦ inl (ap (is_owed n) (sym (more.others c other)) ∙ now)
  ]

  abbrev began_held : IsHeld (after (Begin call caller parts) s) caller call
  began_held = record { state = record { caller = caller; parts = parts; is_wanted = true }; call_is = begins call caller parts s may.0; caller_is = refl; wanted = refl }

  pub owed_began : AreOwed (after (Begin call caller parts) s) new
  owed_began = record {
    wanted = λ n state is w. elim (cases_lt n (begun s)) [
      | inl old ↦
          let now : IsHeld (after (Begin call caller parts) s) state.caller n = record { state = state; call_is = is; caller_is = refl; wanted = w } in
          let was = held_before (Begin call caller parts) may old now in
          let ne : n ≢ call = omega (arith, old, may.0) in
          kept_reply state.caller n ne (held_owed o was.0)
      | inr fresh ↦
          let b : (c : ℕ) × (ps : List PartState) × (Begin call caller parts ≡ Begin n c ps) × (state ≡ record { caller = c; parts = ps; is_wanted = true }) = call_new link.May (Begin call caller parts) n s state may fresh is in
          let number : call ≡ n = cc (b.2) in
          let own : caller ≡ state.caller = cc (b.2, b.3) in
          subst (λ c. is_owed n (new c) ≡ true) own (subst (λ m. is_owed m (new caller) ≡ true) number more.owed.here)
    ];
    comes = λ c n now. elim (new_reply c n now) [
      | inl was ↦
          let held = held_after (Begin call caller parts) may refl (held_of c n o was) in
          (held.state, held.call_is, held.caller_is, held.wanted)
      | inr last ↦ (began_held.state, ap (λ m. call_at m (after (Begin call caller parts) s)) last.1 ∙ began_held.call_is, sym last.0, refl)
    ];
  }

-- ---- the start

pub owed_start : (owed : ℕ → List ℕ) → ((caller : ℕ) → owed caller ≡ no_owed) → AreOwed start owed
owed_start owed none = record {
  wanted = λ call state is w. let no : None ≡ Some state = sym (not_begun call start (omega arith)) ∙ is in absurd (cc);
  comes = λ caller call is. absurd (false≢true (ap (is_owed call) (sym (none caller)) ∙ is));
}

-- nothing happens
pub owed_same : {s : State} {owed : ℕ → List ℕ} (new : ℕ → List ℕ) → AreOwed s owed → AreSameOwed owed new → AreOwed s new
owed_same new o same = record {
  wanted = λ call state is w. same state.caller call ∙ o.wanted call state is w;
  comes = λ caller call is. o.comes caller call (sym (same caller call) ∙ is);
}

-- a caller without calls that are wanted may be owed nothing
pub owed_without : {s : State} {owed : ℕ → List ℕ} (caller : ℕ) (new : ℕ → List ℕ) → AreOwed s owed → ((call : ℕ) → IsHeld s caller call → ⊥) → new caller ≡ no_owed
    → ((other : ℕ) → other ≢ caller → new other ≡ owed other) → AreOwed s new
owed_without caller new o none empty others = record {
  wanted = λ call state is w.
      let ne : state.caller ≢ caller = λ same. none call (record { state = state; call_is = is; caller_is = same; wanted = w }) in
      ap (is_owed call) (others state.caller ne) ∙ o.wanted call state is w;
  comes = λ c call is. elim (cases_eq c caller) [
    | inl own ↦ absurd (false≢true (ap (is_owed call) (sym (ap new own ∙ empty)) ∙ is))
    | inr ne ↦ o.comes c call (ap (is_owed call) (sym (others c ne)) ∙ is)
  ];
}
