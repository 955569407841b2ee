-- A caller's calls finish in the order in which they began.
use Rattle.std.proofs.Common.{◌≡◌, ◌<◌, ◌++◌, ◌&&◌, ◌⊎◌, inl, inr, ℕ, Bool, true, false, not, List, [], ◌∷◌, Some, refl, sym, ap, ◌∙◌, subst, arith}
use Rattle.std.specs.Prelude.{Contains}
use Rattle.std.proofs.lemmas.Bool.{false≢true, eqb-true, eq-eqb, cases_order}
use Rattle.std.proofs.lemmas.List.Elements.{Contains-append_left, Contains-push, Contains-push_cases}
use Rattle.resp_core.proofs.Cases.{by_test, and_first, and_second}
use Rattle.session_core.specs.Channel.{Ask}
use Rattle.session_core.specs.LinkEvents as link
use Rattle.session_core.specs.Part.{PartState}
use Rattle.session_core.specs.State.{CallState, State, Event, On, Begin, GiveUp, Finish, start, begun, call_at, asks, unwants, MayBy, MayFinish, after, RunBy}
use Rattle.session_core.specs.History.{AsQueue, HasEnded}
use Rattle.session_core.proofs.Runs.{always, split_run}
use Rattle.session_core.proofs.AfterEvents.{nothing_in, has_begun, begun_after, call_goes, call_came, begins}
use Rattle.session_core.proofs.Waiting.{may_ask}

-- The call is there, is this caller's, and is wanted.
pub record IsWanted (s : State) (caller call : ℕ) : Type 0 where
  pub state : CallState
  pub call_is : call_at call s ≡ Some state
  pub wanted : state.is_wanted ≡ true
  pub caller_is : state.caller ≡ caller

pub not_true : (b : Bool) → not b ≡ true → b ≡ false
not_true true h = absurd (false≢true h)
not_true false h = refl

wanted_before : (e : Event) (s : State) (caller call : ℕ) → MayBy AsQueue e s → call < begun s → IsWanted (after e s) caller call → IsWanted s caller call × (unwants call e ≡ false)
wanted_before e s caller call may bound w = elim (call_came AsQueue e call s w.state may bound w.call_is) [
  | inl c ↦
      let both : (c.0.is_wanted && not (unwants call e)) ≡ true = sym c.2.wanted ∙ w.wanted in (
        record { state = c.0; call_is = c.1; wanted = and_first _ _ both; caller_is = sym c.2.caller ∙ w.caller_is },
        not_true (unwants call e) (and_second _ _ both),
      )
  | inr left ↦ absurd (false≢true (sym (ap (λ (x : CallState). x.is_wanted) left) ∙ w.wanted))
]

wanted_along : (events : List Event) (s t : State) (caller call : ℕ) → RunBy AsQueue s events t → call < begun s → IsWanted t caller call → IsWanted s caller call
wanted_along [] s t caller call run bound w = subst (λ x. IsWanted x caller call) run w
wanted_along (e ∷ events) s t caller call run bound w =
    let more : call < begun (after e s) = omega (arith, bound, begun_after AsQueue e s run.0) in
    (wanted_before e s caller call run.0 bound (wanted_along events (after e s) t caller call run.1 more w)).0

-- ---- calls that are given up

-- A call that nobody wants any more, by this event, was there.
unwanted_begun : (call : ℕ) (e : Event) (s : State) → MayBy AsQueue e s → unwants call e ≡ true → call < begun s
unwanted_begun call (GiveUp c) s may h = subst (λ n. n < begun s) (eqb-true c call h) may
unwanted_begun call (Finish c state) s may h = subst (λ n. n < begun s) (eqb-true c call h) (has_begun c s state may.call_is)
unwanted_begun call e s may h = absurd (false≢true h)

-- what happens after an event that ends a call, before a state in which it is wanted
never_wanted : (e : Event) (mid : List Event) (old last : State) (caller call : ℕ) → MayBy AsQueue e old → RunBy AsQueue (after e old) mid last → unwants call e ≡ true → IsWanted last caller call → ⊥
never_wanted e mid old last caller call may run h w =
    let bound = unwanted_begun call e old may h in
    let grown : call < begun (after e old) = omega (arith, bound, begun_after AsQueue e old may) in
    let back = wanted_before e old caller call may bound (wanted_along mid (after e old) last caller call run grown w) in
    false≢true (sym back.1 ∙ h)

pub asked_no_more : (before mid more : List Event) (s : State) (call part number : ℕ) (e : Event) (requests : List Ask) → RunBy AsQueue start (before ++ e ∷ (mid ++ On number (link.Put requests) ∷ more)) s → unwants call e ≡ true
    → asks call part requests ≡ false
asked_no_more before mid more s call part number e requests run h =
    let one = split_run AsQueue before (e ∷ (mid ++ On number (link.Put requests) ∷ more)) start s run in
    let two = split_run AsQueue mid (On number (link.Put requests) ∷ more) (after e one.0) s one.2.1 in
    by_test (asks call part requests)
    (λ k.
    let ask = (may_ask number call part requests two.0 two.2.0 k).1 in
    absurd (never_wanted e mid one.0 two.0 ask.caller call one.2.0 two.1 h
    (record { state = ask.has.state; call_is = ask.has.call_is; wanted = ask.wanted; caller_is = ask.has.caller_is })))
    (λ k. k)

pub finished_no_more : (before mid more : List Event) (s : State) (call : ℕ) (e : Event) (state : CallState) → RunBy AsQueue start (before ++ e ∷ (mid ++ Finish call state ∷ more)) s → unwants call e ≡ true → ⊥
finished_no_more before mid more s call e state run h =
    let one = split_run AsQueue before (e ∷ (mid ++ Finish call state ∷ more)) start s run in
    let two = split_run AsQueue mid (Finish call state ∷ more) (after e one.0) s one.2.1 in
    let may = two.2.0 in
    never_wanted e mid one.0 two.0 state.caller call one.2.0 two.1 h
    (record { state = state; call_is = may.call_is; wanted = may.wanted; caller_is = refl })

-- ---- calls of a caller

-- a call does not finish after a later one of its caller
not_after : (mid : List Event) (old last : State) (first second : ℕ) (a b : CallState) → MayFinish first a old → RunBy AsQueue (after (Finish first a) old) mid last → MayFinish second b last → a.caller ≡ b.caller → second < first → ⊥
not_after mid old last first second a b may run ends caller gt =
    let now = after (Finish first a) old in
    let bound : second < begun old = omega (arith, gt, has_begun first old a may.call_is) in
    let grown : second < begun now = omega (arith, bound, begun_after AsQueue (Finish first a) old may) in
    let later : IsWanted last b.caller second = record { state = b; call_is = ends.call_is; wanted = ends.wanted; caller_is = refl } in
    let w = (wanted_before (Finish first a) old b.caller second may bound (wanted_along mid now last b.caller second run grown later)).0 in
    let unwanted : w.state.is_wanted ≡ false = may.turn second w.state gt w.call_is (w.caller_is ∙ sym caller) in
    false≢true (sym unwanted ∙ w.wanted)

pub in_turn : (before mid more : List Event) (s : State) (first second : ℕ) (a b : CallState) → RunBy AsQueue start (before ++ Finish first a ∷ (mid ++ Finish second b ∷ more)) s → a.caller ≡ b.caller → first < second
in_turn before mid more s first second a b run caller =
    let one = split_run AsQueue before (Finish first a ∷ (mid ++ Finish second b ∷ more)) start s run in
    let two = split_run AsQueue mid (Finish second b ∷ more) (after (Finish first a) one.0) s one.2.1 in
    elim (cases_order first second) [
      | inl same ↦ absurd (finished_no_more before mid more s second (Finish first a) b run (eq-eqb first second same))
      | inr apart ↦ elim apart [
        | inl lt ↦ lt
        | inr gt ↦ absurd (not_after mid one.0 two.0 first second a b one.2.0 two.1 two.2.0 caller gt)
      ]
    ]

-- ---- a call that began is wanted until it ends

wanted_after : (e : Event) (s : State) (caller call : ℕ) → MayBy AsQueue e s → IsWanted s caller call → (unwants call e ≡ true) ⊎ IsWanted (after e s) caller call
wanted_after e s caller call may w = elim (call_goes AsQueue e call s w.state may w.call_is) [
  | inl d ↦ by_test (unwants call e) (λ k. inl k)
      (λ k. inr (record { state = d.0; call_is = d.1; wanted = d.2.wanted ∙ rw (w.wanted, k) refl; caller_is = d.2.caller ∙ w.caller_is }))
  | inr v ↦ absurd (false≢true (sym v.unwanted ∙ w.wanted))
]

ended_or_wanted : (caller call : ℕ) (parts : List PartState) (events : List Event) (s : State) → RunBy AsQueue start events s → Contains events (Begin call caller parts) → HasEnded call events ⊎ IsWanted s caller call
ended_or_wanted caller call parts events s run began = always AsQueue (λ es t. Contains es (Begin call caller parts) → HasEnded call es ⊎ IsWanted t caller call)
    (λ b. absurd (nothing_in _ b))
    (λ es e t reached may old b. elim (Contains-push_cases es e (Begin call caller parts) b) [
      | inl before ↦ elim (old before) [
        | inl ended ↦ inl (record { event = ended.event; among = Contains-append_left es (e ∷ []) ended.event ended.among; ends = ended.ends })
        | inr w ↦ elim (wanted_after e t caller call may w) [
          | inl now ↦ inl (record { event = e; among = Contains-push es e; ends = now })
          | inr still ↦ inr still
        ]
      ]
      | inr now ↦
          let first = (subst (λ x. MayBy AsQueue x t) now may).0 in
          inr (record {
            state = record { caller = caller; parts = parts; is_wanted = true };
            call_is = ap (λ x. call_at call (after x t)) now ∙ begins call caller parts t first;
            wanted = refl;
            caller_is = refl;
          })
    ])
    events s run began

pub ended_first : (before more : List Event) (s : State) (first second : ℕ) (parts : List PartState) (b : CallState) → RunBy AsQueue start (before ++ Finish second b ∷ more) s → Contains before (Begin first b.caller parts) → first < second → HasEnded first before
ended_first before more s first second parts b run began lt =
    let r = split_run AsQueue before (Finish second b ∷ more) start s run in
    elim (ended_or_wanted b.caller first parts before r.0 r.1 began) [
      | inl ended ↦ ended
      | inr w ↦ absurd (false≢true (sym (r.2.0.turn first w.state lt w.call_is w.caller_is) ∙ w.wanted))
    ]
