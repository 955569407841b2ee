-- Which replies are there after an event, and how they are found.
use Rattle.std.proofs.Common.{◌≡◌, ◌≢◌, ◌∙◌, ◌<◌, ◌≤◌, ◌+◌, ◌&&◌, ◌⊎◌, inl, inr, ℕ, zero, suc, Bool, true, false, not, List, [], ◌∷◌, drop, length, Option, None, Some, Ok, Err, OnOk, OnErr, refl, sym, ap, subst, arith}
use Rattle.std.specs.Prelude.{◌==◌, Contains, IfOk, Result}
use Rattle.std.specs.List.{list_all, slice_get}
use Rattle.std.specs.Option.{option_map}
use Rattle.std.proofs.lemmas.Bool.{false≢true, cases_lt, cases_eq}
use Rattle.std.proofs.lemmas.Bool.Decides.{nat_tests}
use Rattle.std.proofs.lemmas.Option.{same_Some}
use Rattle.resp_core.proofs.Cases.{by_test, and_first}
use Rattle.session_core.specs.declared.link.Ticket.{Ticket}
use Rattle.session_core.specs.declared.link.Ticket.TheVariants.{Part}
use Rattle.session_core.specs.declared.link.Ticket.TheVariants as ticket
use Rattle.session_core.specs.LinkEvents as link
use Rattle.session_core.specs.Part.{Phase, PartState, Waits, is_done, is_waiting, phase_asked}
use Rattle.session_core.specs.State.{CallState, State, Event, Open, On, Begin, GiveUp, End, Finish, Trim, Happens, May, after, asks, begun, call_after, call_at, phase_after, unwants}
use Rattle.session_core.proofs.AfterEvents.{all_at, call_came, call_goes, call_new, changed_call, first_more, has_begun, in_phase, not_forgotten, nothing_in, same_call, seen}
use Rattle.session_machine.specs.Puts.{put_for}
use Rattle.session_machine.specs.Took.{IsTook}
use Rattle.session_machine.specs.declared.took.Took.{Took}
use Rattle.session_machine.specs.declared.took.Took.TheVariants.{Nothing, Kept, Back, Login, Map, Asking, Broken}
use Rattle.redis_session.specs.Due.{IsDone, IsNoted, AreNoted, AreNotedBut, IsCallOf, taken_call, touched}
use Rattle.redis_session.specs.declared.due.Due.{Due}

-- ---- what an event leaves of a call

-- each item passes if the item at each place does
all_by : {X : Type 0} (p : X → Bool) (xs : List X) → ((i : ℕ) (x : X) → slice_get xs i ≡ Some x → p x ≡ true) → list_all p xs ≡ true
all_by p [] each = refl
all_by p (x ∷ xs) each = rw (each zero x refl, all_by p xs (λ i y is. each (suc i) y is)) refl

-- After the event the call is wanted if it was, and only parts are done that were.
record Spares (e : Event) (call : ℕ) : Type 0 where
  pub wanted : unwants call e ≡ false
  pub parts : (q : ℕ) (w : Bool) (p : PartState) → is_done (phase_after call q e w p) ≡ true → is_done p.phase ≡ true

asked_before : (number : ℕ) (phase : Phase) → is_done (phase_asked number phase) ≡ true → is_done phase ≡ true
asked_before number (Waits left) h = absurd (false≢true h)
asked_before number other h = h

differs : (a b : ℕ) → (Some a ≡ Some b → ⊥) → (a == b) ≡ false
differs a b apart = let ne : a ≢ b = λ e. apart (ap Some e) in grind (arith, nat_tests)

-- a call that an event is not about
spares : (e : Event) (call : ℕ) → (touched e ≡ Some call → ⊥) → Spares e call
spares (On number (link.Put requests)) call apart = record {
  wanted = refl;
  parts = λ q w p h. by_test (asks call q requests) (λ k. asked_before number p.phase (rw k at h)) (λ k. rw k at h);
}
spares (On number (link.Take (Part c p) reply)) call apart = record { wanted = refl; parts = λ q w p h. rw (differs c call apart) at h }
spares (On number (link.Lose (Part c p) begun)) call apart = record { wanted = refl; parts = λ q w p h. rw (differs c call apart) at h }
spares (GiveUp c) call apart = record { wanted = differs c call apart; parts = λ q w p h. rw (differs c call apart) at h }
spares (End c q cause) call apart = record { wanted = refl; parts = λ q w p h. rw (differs c call apart) at h }
spares (Finish c state) call apart = record { wanted = differs c call apart; parts = λ q w p h. h }
spares other call apart = record { wanted = refl; parts = λ q w p h. h }

still_unwanted : (wanted unwanted : Bool) → unwanted ≡ false → (wanted && not unwanted) ≡ false → wanted ≡ false
still_unwanted false unwanted stays is = refl
still_unwanted true unwanted stays is = rw stays at is

-- A reply is there after an event that is about no call of its caller. So it was there before.
still_done : (e : Event) (s : State) (caller call : ℕ) → May e s → call < begun s
    → ((n : ℕ) (state : CallState) → call_at n s ≡ Some state → state.caller ≡ caller → Spares e n) → IsDone caller call (after e s) → IsDone caller call s
still_done e s caller call may bound spared it = elim (call_came link.May e call s it.state may bound it.call_is) [
  | inl c ↦
      let own : c.0.caller ≡ caller = sym c.2.caller ∙ it.caller_is in
      let both : (c.0.is_wanted && not (unwants call e)) ≡ true = sym c.2.wanted ∙ it.wanted in
      let kept = spared call c.0 c.1 own in
      record {
        state = c.0;
        call_is = c.1;
        caller_is = own;
        wanted = and_first _ _ both;
        turn = λ n state lt is its. elim (call_goes link.May e n s state may is) [
          | inl d ↦ still_unwanted state.is_wanted (unwants n e) (spared n state is its).wanted (sym d.2.wanted ∙ it.turn n d.0 lt d.1 (d.2.caller ∙ its))
          | inr v ↦ v.unwanted
        ];
        done = all_by (λ p. is_done p.phase) c.0.parts (λ q p at. kept.parts q c.0.is_wanted p
            (all_at (λ p. is_done p.phase) it.state.parts q (in_phase p (phase_after call q e c.0.is_wanted p)) it.done
            (c.2.parts q ∙ ap (option_map (λ p. in_phase p (phase_after call q e c.0.is_wanted p))) at)));
      }
  | inr left ↦ absurd (false≢true (sym (ap (λ (x : CallState). x.is_wanted) left) ∙ it.wanted))
]

-- the call that an event is about is there after it, if it was before
still_there : (e : Event) (s : State) (caller call : ℕ) (state : CallState) → touched e ≡ Some call → May e s → call_at call s ≡ Some state → state.caller ≡ caller → IsCallOf (after e s) caller call
still_there (On number (link.Take (Part c p) reply)) s caller call state about may at own =
    let e = On number (link.Take (Part c p) reply) in (_, changed_call (call_after e) s (after e s).links call state at, own)
still_there (On number (link.Lose (Part c p) begun)) s caller call state about may at own =
    let e = On number (link.Lose (Part c p) begun) in (_, changed_call (call_after e) s (after e s).links call state at, own)
still_there (GiveUp c) s caller call state about may at own = (_, changed_call (call_after (GiveUp c)) s (after (GiveUp c) s).links call state at, own)
still_there (End c q cause) s caller call state about may at own = (_, changed_call (call_after (End c q cause)) s (after (End c q cause) s).links call state at, own)
still_there (Finish c d) s caller call state about may at own = (_, changed_call (call_after (Finish c d)) s (after (Finish c d) s).links call state at, own)
still_there (Begin c owner parts) s caller call state about may at own =
    let same : c ≡ call = cc in absurd (omega (arith, has_begun call s state at, may.0, same))
still_there other s caller call state about may at own = absurd (cc)

-- Either the reply was there before the event, or the event is about a call of its caller.
done_before : (e : Event) (s : State) (caller call : ℕ) → May e s → IsDone caller call (after e s)
    → IsDone caller call s ⊎ ((c : ℕ) × (touched e ≡ Some c) × IsCallOf (after e s) caller c)
done_before e s caller call may it = elim (cases_lt call (begun s)) [
  | inl old ↦ about (touched e) refl old
  | inr new ↦
      let b = call_new link.May e call s it.state may new it.call_is in
      inr (call, ap touched b.2, (it.state, it.call_is, it.caller_is))
]
  where
    about : (o : Option ℕ) → touched e ≡ o → call < begun s → IsDone caller call s ⊎ ((c : ℕ) × (touched e ≡ Some c) × IsCallOf (after e s) caller c)
    about None is old = inl (still_done e s caller call may old (λ n state at own. spares e n (λ some. let no : None ≡ Some n = sym is ∙ some in absurd (cc))) it)
    about (Some c) is old = elim (seen (call_at c s)) [
      | inl none ↦ inl (still_done e s caller call may old (λ n state at own. spares e n (λ some.
          let same : c ≡ n = cc (is, some) in
          let no : None ≡ Some state = sym none ∙ ap (λ m. call_at m s) same ∙ at in absurd (cc))) it)
      | inr some ↦ elim (cases_eq some.0.caller caller) [
        | inl own ↦ inr (c, is, still_there e s caller c some.0 is may some.1 own)
        | inr other ↦ inl (still_done e s caller call may old (λ n state at own. spares e n (λ now.
            let same : c ≡ n = cc (is, now) in
            let there : some.0 ≡ state = same_call some.0 state (sym some.1 ∙ ap (λ m. call_at m s) same ∙ at) in
            other (ap (λ (x : CallState). x.caller) there ∙ own))) it)
      ]
    ]

-- ---- how replies are found

module _ (due : Due) (old new : State) (e : Event) (happens : Happens old e new) (are : AreNoted due old) where
  first_kept : due.first ≤ new.first
  first_kept = subst (λ (s : State). due.first ≤ s.first) (sym happens.is) (omega (arith, are.first, first_more e old))

  done_there : (caller call : ℕ) → IsDone caller call new → IsDone caller call old ⊎ ((c : ℕ) × (touched e ≡ Some c) × IsCallOf new caller c)
  done_there caller call it = subst (λ (s : State). IsDone caller call old ⊎ ((c : ℕ) × (touched e ≡ Some c) × IsCallOf s caller c)) (sym happens.is)
      (done_before e old caller call happens.may (subst (IsDone caller call) happens.is it))

  -- The event is about no call.
  pub noted_after : touched e ≡ None → AreNoted due new
  noted_after none = record {
    noted = λ caller call it. elim (done_there caller call it) [
      | inl was ↦ are.noted caller call was
      | inr c ↦ let no : None ≡ Some c.0 = sym none ∙ c.1 in absurd (cc)
    ];
    first = first_kept;
  }

  -- The event is about this call.
  pub noted_but : (call : ℕ) → touched e ≡ Some call → AreNotedBut call due new
  noted_but call about = record {
    noted = λ caller n it. elim (done_there caller n it) [
      | inl was ↦ inl (are.noted caller n was)
      | inr c ↦ let same : c.0 ≡ call = cc (about, c.1) in inr (subst (IsCallOf new caller) same c.2)
    ];
    first = first_kept;
  }

-- ---- what a call of the machine answers

pub noted_same : (due : Due) (old new : State) → AreNoted due old → new ≡ old → AreNoted due new
noted_same due old new are same = subst (AreNoted due) (sym same) are

pub noted_if : (due : Due) (old new : State) (e : Event) (answer : Bool) → touched e ≡ None → AreNoted due old
    → (answer ≡ true → Happens old e new) → (answer ≡ false → new ≡ old) → AreNoted due new
noted_if due old new e true none are does same = noted_after due old new e (does refl) are none
noted_if due old new e false none are does same = noted_same due old new are (same refl)

pub noted_ok : {X E : Type 0} (due : Due) (old new : State) (e : Event) (result : Result X E) → touched e ≡ None → AreNoted due old
    → OnOk result (Happens old e new) → OnErr result (new ≡ old) → AreNoted due new
noted_ok due old new e (Ok x) none are does same = noted_after due old new e does are none
noted_ok due old new e (Err y) none are does same = noted_same due old new are same

pub noted_either : {X E : Type 0} (due : Due) (old new : State) (e f : Event) (result : Result X E) → touched e ≡ None → touched f ≡ None → AreNoted due old
    → OnOk result (Happens old e new) → OnErr result (Happens old f new) → AreNoted due new
noted_either due old new e f (Ok x) none other are does fails = noted_after due old new e does are none
noted_either due old new e f (Err y) none other are does fails = noted_after due old new f fails are other

pub noted_opened : {E : Type 0} (due : Due) (old new : State) (most : ℕ) (result : Result ℕ E) → AreNoted due old
    → IfOk result (λ number. Happens old (Open number most) new) → OnErr result (new ≡ old) → AreNoted due new
noted_opened due old new most (Ok number) are does same = noted_after due old new (Open number most) does are refl
noted_opened due old new most (Err y) are does same = noted_same due old new are same

pub noted_asked : {E : Type 0} (due : Due) (old new : State) (asks : Bool) (number call part : ℕ) (result : Result Bool E) → AreNoted due old
    → (result ≡ Ok true → (request : List ℕ) × Happens old (On number (link.Put (put_for asks call part request))) new)
    → (result ≡ Ok false → new ≡ old) → OnErr result (new ≡ old) → AreNoted due new
noted_asked due old new asks number call part (Ok true) are does same fails =
    let it = does refl in noted_after due old new (On number (link.Put (put_for asks call part it.0))) it.1 are refl
noted_asked due old new asks number call part (Ok false) are does same fails = noted_same due old new are (same refl)
noted_asked due old new asks number call part (Err y) are does same fails = noted_same due old new are fails

-- a reply was taken for a part of this call
pub took_but : (number : ℕ) (due : Due) (old new : State) (took : Took) (call : ℕ) → AreNoted due old → IsTook number old took new → Some call ≡ taken_call took → AreNotedBut call due new
took_but number due old new (Kept seat) call are is about = noted_but due old new (On number (link.Take (Part seat.call seat.part) is.0)) is.1 are call (sym about)
took_but number due old new (Back seat reply) call are is about = noted_but due old new (On number (link.Take (Part seat.call seat.part) reply.items)) is.0 are call (sym about)
took_but number due old new other call are is about = absurd (cc)

-- no reply was taken for a part
pub took_noted : (number : ℕ) (due : Due) (old new : State) (took : Took) → AreNoted due old → IsTook number old took new → None ≡ taken_call took → AreNoted due new
took_noted number due old new Nothing are is none = noted_same due old new are is.1
took_noted number due old new (Broken cause) are is none = noted_after due old new (On number (link.Break cause)) is are refl
took_noted number due old new (Login reply) are is none = noted_after due old new (On number (link.Take ticket.Login reply.items)) is are refl
took_noted number due old new (Map count reply) are is none = noted_after due old new (On number (link.Take (ticket.Map count) reply.items)) is are refl
took_noted number due old new (Asking reply) are is none = noted_after due old new (On number (link.Take ticket.Asking reply.items)) is are refl
took_noted number due old new other are is none = absurd (cc)

-- what is lost is no part
pub lost_noted : (number : ℕ) (due : Due) (old new : State) (lost : Ticket) (begun : Bool) → AreNoted due old → Happens old (On number (link.Lose lost begun)) new
    → ((call part : ℕ) → lost ≡ Part call part → ⊥) → AreNoted due new
lost_noted number due old new (Part call part) begun are happens none = absurd (none call part refl)
lost_noted number due old new lost begun are happens none = noted_after due old new (On number (link.Lose lost begun)) happens are refl

-- the first call is forgotten
pub noted_trimmed : (due now : Due) (old new : State) → AreNoted due old → Happens old Trim new → now.first ≤ due.first + 1
    → ((caller call : ℕ) → IsNoted caller call due → IsNoted caller call now) → AreNoted now new
noted_trimmed due now old new are happens first keeps = record {
  noted = λ caller call it. keeps caller call ((noted_after due old new Trim happens are refl).noted caller call it);
  first = omega (arith, are.first, first, ap (λ (s : State). s.first) happens.is);
}

waits_not : (phase : Phase) → is_waiting phase ≡ true → is_done phase ≡ true → ⊥
waits_not (Waits left) waits done = false≢true done
waits_not other waits done = false≢true waits

some_waits : (parts : List PartState) → length parts ≢ 0 → list_all (λ p. is_waiting p.phase) parts ≡ true → list_all (λ p. is_done p.phase) parts ≡ true → ⊥
some_waits [] some waits done = some refl
some_waits (p ∷ parts) some waits done = waits_not p.phase (and_first _ _ waits) (and_first _ _ done)

-- a call that begins has no reply if it has parts
begun_before : (s : State) (call caller : ℕ) (parts : List PartState) → May (Begin call caller parts) s → length parts ≢ 0
    → (owner n : ℕ) → IsDone owner n (after (Begin call caller parts) s) → IsDone owner n s
begun_before s call caller parts may some owner n it = elim (cases_lt n (begun s)) [
  | inl old ↦ still_done (Begin call caller parts) s owner n may old (λ m state at own. record { wanted = refl; parts = λ q w p h. h }) it
  | inr new ↦
      let b = call_new link.May (Begin call caller parts) n s it.state may new it.call_is in
      let same : b.1 ≡ parts = cc (b.2) in
      let own : it.state.parts ≡ parts = ap (λ (x : CallState). x.parts) b.3 ∙ same in
      absurd (some_waits parts some may.1 (subst (λ ps. list_all (λ (p : PartState). is_done p.phase) ps ≡ true) own it.done))
]

pub noted_begun : (due : Due) (old new : State) (call caller : ℕ) (parts : List PartState) → AreNoted due old → Happens old (Begin call caller parts) new → length parts ≢ 0 → AreNoted due new
noted_begun due old new call caller parts are happens some = record {
  noted = λ owner n it. are.noted owner n (begun_before old call caller parts happens.may some owner n (subst (IsDone owner n) happens.is it));
  first = (noted_but due old new (Begin call caller parts) happens are call refl).first;
}

-- ---- callers are noted, and looked at

there : (caller call : ℕ) (due : Due) (s : State) → due.first ≤ s.first → IsDone caller call s → due.first ≤ call
there caller call due s first it = omega (arith, first, not_forgotten call s it.state it.call_is)

-- the caller of the call was noted
pub noted_again : (call caller : ℕ) (due now : Due) (s : State) (state : CallState) → AreNotedBut call due s → call_at call s ≡ Some state → caller ≡ state.caller
    → ((n : ℕ) → due.first ≤ n → IsNoted caller n now) → ((other n : ℕ) → due.first ≤ n → IsNoted other n due → IsNoted other n now) → now.first ≡ due.first → AreNoted now s
noted_again call caller due now s state are at is own others first = record {
  noted = λ other n it. elim (are.noted other n it) [
    | inl noted ↦ others other n (there other n due s are.first it) noted
    | inr of ↦
        let same : caller ≡ other = is ∙ ap (λ (x : CallState). x.caller) (same_call state of.0 (sym at ∙ of.1)) ∙ of.2 in
        subst (λ c. IsNoted c n now) same (own n (there other n due s are.first it))
  ];
  first = omega (arith, first, are.first);
}

-- there is no such call
pub noted_alone : (call : ℕ) (due : Due) (s : State) → AreNotedBut call due s → call_at call s ≡ None → AreNoted due s
noted_alone call due s are none = record {
  noted = λ other n it. elim (are.noted other n it) [
    | inl noted ↦ noted
    | inr of ↦ let no : None ≡ Some of.0 = sym none ∙ of.1 in absurd (cc)
  ];
  first = are.first;
}

pub noted_turned : (due now : Due) (s : State) → AreNoted due s → ((caller call : ℕ) → IsNoted caller call due → IsNoted caller call now) → now.first ≡ due.first → AreNoted now s
noted_turned due now s are keeps first = record { noted = λ caller call it. keeps caller call (are.noted caller call it); first = omega (arith, first, are.first) }

dropped : (xs : List ℕ) (x y : ℕ) → slice_get xs 0 ≡ Some y → Contains xs x → Contains (drop 1 xs) x ⊎ (x ≡ y)
dropped [] x y first is = absurd (cc)
dropped (z ∷ xs) x y first (zero, within, is) = inr (sym is ∙ same_Some z y first)
dropped (z ∷ xs) x y first (suc k, within, is) = inl (k, omega (arith, within), is)

-- the first caller in the queue has no reply, and is dropped
pub noted_dropped : (due now : Due) (s : State) (caller : ℕ) → AreNoted due s → slice_get due.callers.items 0 ≡ Some caller → ((call : ℕ) → IsDone caller call s → ⊥)
    → now.callers.items ≡ drop 1 due.callers.items → now.from ≡ due.from → now.first ≡ due.first → AreNoted now s
noted_dropped due now s caller are at none callers from first = record {
  noted = λ other n it. elim (are.noted other n it) [
    | inl in_queue ↦ elim (dropped due.callers.items other caller at in_queue) [
      | inl still ↦ inl (subst (λ xs. Contains xs other) (sym callers) still)
      | inr same ↦ absurd (none n (subst (λ c. IsDone c n s) same it))
    ]
    | inr later ↦ inr (omega (arith, later, from))
  ];
  first = omega (arith, first, are.first);
}

-- the first call that is looked at by itself has no reply, and is passed
pub noted_passed : (due now : Due) (s : State) (call : ℕ) → AreNoted due s → due.from ≡ call → ((caller : ℕ) → IsDone caller call s → ⊥)
    → now.callers.items ≡ due.callers.items → now.from ≡ due.from + 1 → now.first ≡ due.first → AreNoted now s
noted_passed due now s call are at none callers from first = record {
  noted = λ other n it. elim (are.noted other n it) [
    | inl in_queue ↦ inl (subst (λ xs. Contains xs other) (sym callers) in_queue)
    | inr later ↦ elim (cases_eq n call) [
      | inl same ↦ absurd (none other (subst (λ m. IsDone other m s) same it))
      | inr other_call ↦ inr (omega (arith, later, from, at, other_call))
    ]
  ];
  first = omega (arith, first, are.first);
}

-- its reply is there, and its caller goes into the queue
pub noted_taken_up : (due now : Due) (s : State) (caller call : ℕ) → AreNoted due s → due.from ≡ call → IsDone caller call s
    → ((other n : ℕ) → IsNoted other n due → (n ≡ due.from → other ≡ caller) → IsNoted other n now) → now.first ≡ due.first → AreNoted now s
noted_taken_up due now s caller call are at done keeps first = record {
  noted = λ other n it. keeps other n (are.noted other n it) (λ here.
      let same : it.state ≡ done.state = same_call it.state done.state (sym it.call_is ∙ ap (λ m. call_at m s) (here ∙ at) ∙ done.call_is) in
      sym it.caller_is ∙ ap (λ (x : CallState). x.caller) same ∙ done.caller_is);
  first = omega (arith, first, are.first);
}

-- No caller is in the queue, and no call is left.
pub none_done : (due : Due) (s : State) → AreNoted due s → due.callers.items ≡ [] → begun s ≤ due.from → (caller call : ℕ) → IsDone caller call s → ⊥
none_done due s are empty past caller call it = elim (are.noted caller call it) [
  | inl in_queue ↦ nothing_in caller (subst (λ xs. Contains xs caller) empty in_queue)
  | inr later ↦ absurd (omega (arith, later, past, has_begun call s it.state it.call_is))
]

-- the queue gets shorter
pub fewer : (xs ys : List ℕ) (y : ℕ) → slice_get xs 0 ≡ Some y → ys ≡ drop 1 xs → length ys < length xs
fewer [] ys y first is = absurd (cc)
fewer (x ∷ xs) ys y first is = omega (arith, ap length is)
