-- Where the reply of a part comes from, and what was asked for it.
use Rattle.std.proofs.Common.{◌≡◌, ◌<◌, ◌++◌, ◌&&◌, ◌⊎◌, inl, inr, ℕ, zero, suc, Bool, true, false, eqb, List, [], ◌∷◌, Option, None, Some, refl, sym, ap, ◌∙◌, subst, arith}
use Rattle.std.specs.Prelude.{Contains}
use Rattle.std.specs.List.{slice_get, cons_option}
use Rattle.std.specs.Option.{option_map, option_and_then}
use Rattle.std.proofs.lemmas.Bool.{eq-eqb}
use Rattle.std.proofs.lemmas.List.Elements.{Contains-append_left, Contains-append_cases, Contains-push, Contains-push_cases}
use Rattle.resp_core.proofs.Cases.{by_test}
use Rattle.session_core.specs.declared.link.Ticket.TheVariants.{Part}
use Rattle.session_core.specs.declared.part.Cause.{Cause}
use Rattle.session_core.specs.Channel.{Ask}
use Rattle.session_core.specs.LinkEvents as link
use Rattle.session_core.specs.Part.{PartState, Phase, Waits, Answered, Lost, Unsent, is_waiting, is_refusal, phase_asked, phase_told, phase_lost, phase_ended}
use Rattle.session_core.specs.Part as part
use Rattle.session_core.specs.State.{State, Event, On, Begin, GiveUp, End, start, begun, call_at, part_at, is_part, asks, phase_after, MayBy, after, RunBy}
use Rattle.session_core.specs.History.{AsQueue, CallPart, Began, Step, Asked, step_of, steps, WasTaken, WasAsked}
use Rattle.session_core.proofs.Runs.{always}
use Rattle.session_core.proofs.AfterEvents.{nothing_in, only_one, in_phase, all_at, seen, call_came, begins}
use Rattle.session_core.proofs.Waiting.{is_ticket, part_is, same_part, none_there, that_waits}
use Rattle.session_core.proofs.Courses.{Stands, stands, unbegun}
use Rattle.session_core.proofs.Ordering.{asked_here}

-- ---- a phase that is an answer

asked_answer : (number : ℕ) (f : Phase) (reply : List ℕ) → phase_asked number f ≡ Answered reply → f ≡ Answered reply
asked_answer number (Waits left) reply h = absurd (cc)
asked_answer number (part.Asked link left) reply h = h
asked_answer number (Answered r) reply h = h
asked_answer number Lost reply h = h
asked_answer number (part.Refused error) reply h = h
asked_answer number (Unsent cause) reply h = h

told_answer : (wanted refusal : Bool) (r : List ℕ) (f : Phase) (reply : List ℕ) → phase_told wanted refusal r f ≡ Answered reply → (f ≡ Answered reply) ⊎ ((r ≡ reply) × (refusal ≡ false))
told_answer wanted false r (part.Asked link left) reply h = inr (cc, refl)
told_answer true true r (part.Asked link zero) reply h = absurd (cc)
told_answer true true r (part.Asked link (suc left)) reply h = absurd (cc)
told_answer false true r (part.Asked link left) reply h = absurd (cc)
told_answer wanted refusal r (Waits left) reply h = inl h
told_answer wanted refusal r (Answered x) reply h = inl h
told_answer wanted refusal r Lost reply h = inl h
told_answer wanted refusal r (part.Refused error) reply h = inl h
told_answer wanted refusal r (Unsent cause) reply h = inl h

lost_answer : (wanted begun : Bool) (f : Phase) (reply : List ℕ) → phase_lost wanted begun f ≡ Answered reply → f ≡ Answered reply
lost_answer wanted true (part.Asked link left) reply h = absurd (cc)
lost_answer true false (part.Asked link left) reply h = absurd (cc)
lost_answer false false (part.Asked link left) reply h = absurd (cc)
lost_answer wanted begun (Waits left) reply h = h
lost_answer wanted begun (Answered x) reply h = h
lost_answer wanted begun Lost reply h = h
lost_answer wanted begun (part.Refused error) reply h = h
lost_answer wanted begun (Unsent cause) reply h = h

ended_answer : (cause : Cause) (f : Phase) (reply : List ℕ) → phase_ended cause f ≡ Answered reply → f ≡ Answered reply
ended_answer cause (Waits left) reply h = absurd (cc)
ended_answer cause (part.Asked link left) reply h = h
ended_answer cause (Answered x) reply h = h
ended_answer cause Lost reply h = h
ended_answer cause (part.Refused error) reply h = h
ended_answer cause (Unsent other) reply h = h

-- A part that is answered after an event was answered before, or by it.
answer_from : (call part : ℕ) (e : Event) (wanted : Bool) (p : PartState) (reply : List ℕ) → phase_after call part e wanted p ≡ Answered reply
    → (p.phase ≡ Answered reply) ⊎ ((number : ℕ) × (e ≡ On number (link.Take (Part call part) reply)) × (is_refusal p reply ≡ false))
answer_from call part (On m (link.Put requests)) wanted p reply h =
    by_test (asks call part requests) (λ k. inl (asked_answer m p.phase reply (rw k at h))) (λ k. inl (rw k at h))
answer_from call part (On m (link.Take ticket r)) wanted p reply h =
    by_test (is_part call part ticket)
    (λ k. elim (told_answer wanted (is_refusal p r) r p.phase reply (rw k at h)) [
      | inl old ↦ inl old
      | inr now ↦ inr (m, ap (λ t. On m (link.Take t r)) (is_ticket call part ticket k) ∙ ap (λ x. On m (link.Take (Part call part) x)) now.0, ap (is_refusal p) (sym now.0) ∙ now.1)
    ])
    (λ k. inl (rw k at h))
answer_from call part (On m (link.Lose ticket begun)) wanted p reply h =
    by_test (is_part call part ticket) (λ k. inl (lost_answer wanted begun p.phase reply (rw k at h))) (λ k. inl (rw k at h))
answer_from call part (GiveUp c) wanted p reply h = by_test (eqb c call) (λ k. inl (ended_answer _ p.phase reply (rw k at h))) (λ k. inl (rw k at h))
answer_from call part (End c q cause) wanted p reply h = by_test (eqb c call && eqb q part) (λ k. inl (ended_answer cause p.phase reply (rw k at h))) (λ k. inl (rw k at h))
answer_from call part e wanted p reply h = inl h

-- ---- whole runs

-- a part that is there after an event, and whose call had begun
part_came : (e : Event) (call part : ℕ) (s : State) (p : PartState) → MayBy AsQueue e s → call < begun s → part_at call part (after e s) ≡ Some p
    → (old : PartState) × (wanted : Bool) × (part_at call part s ≡ Some old) × (p.phase ≡ phase_after call part e wanted old)
part_came e call part s p may bound at = elim (seen (call_at call (after e s))) [
  | inl none ↦ let two : None ≡ Some p = sym (none_there part call (after e s) (inl none)) ∙ at in absurd (cc)
  | inr d ↦ elim (call_came AsQueue e call s d.0 may bound d.1) [
    | inr left ↦ let two : None ≡ Some p = sym (none_there part call (after e s) (inr (d.1 ∙ ap Some left))) ∙ at in absurd (cc)
    | inl c ↦
        let now : option_map (λ q. in_phase q (phase_after call part e c.0.is_wanted q)) (slice_get c.0.parts part) ≡ Some p = sym (c.2.parts part) ∙ sym (ap (option_and_then (λ x. slice_get x.parts part)) d.1) ∙ at in
        elim (seen (slice_get c.0.parts part)) [
          | inl none ↦ let two : None ≡ Some p = sym (ap (option_map (λ q. in_phase q (phase_after call part e c.0.is_wanted q))) none) ∙ now in absurd (cc)
          | inr q ↦
              let same : in_phase q.0 (phase_after call part e c.0.is_wanted q.0) ≡ p = same_part _ p (sym (ap (option_map (λ x. in_phase x (phase_after call part e c.0.is_wanted x))) q.1) ∙ now) in
              (q.0, c.0.is_wanted, ap (option_and_then (λ x. slice_get x.parts part)) c.1 ∙ q.1, ap (λ (x : PartState). x.phase) (sym same))
        ]
  ]
]

-- a part is as it began, but for its phase
pub as_begun : (seat : CallPart) (es : List Event) (s : State) (p : PartState) → (h : Stands seat es s) → part_at seat.call seat.part s ≡ Some p → p ≡ in_phase seat.began h.phase
as_begun seat es s p h at = elim h.here [
  | inl has ↦ same_part p _ (sym at ∙ part_is seat.caller seat.call seat.part s _ has)
  | inr gone ↦ let two : None ≡ Some p = sym gone.away ∙ at in absurd (cc)
]

none_of : (o : Option Step) (st : List Step) → cons_option o st ≡ [] → (o ≡ None) × (st ≡ [])
none_of None st h = (refl, h)
none_of (Some x) st h = absurd (cc)

-- a part that just began waits
just_began : (seat : CallPart) (s : State) (parts : List PartState) → MayBy AsQueue (Begin seat.call seat.caller parts) s → slice_get parts seat.part ≡ Some seat.began → (p : PartState) (reply : List ℕ)
    → part_at seat.call seat.part (after (Begin seat.call seat.caller parts) s) ≡ Some p → p.phase ≡ Answered reply → ⊥
just_began seat s parts may is p reply at answer =
    let there = ap (option_and_then (λ x. slice_get x.parts seat.part)) (begins seat.call seat.caller parts s may.0) ∙ is in
    let same : seat.began ≡ p = same_part _ p (sym there ∙ at) in
    let w = that_waits seat.began.phase (all_at (λ x. is_waiting x.phase) parts seat.part seat.began may.1 is) in
    let two : Waits w.0 ≡ Answered reply = sym w.1 ∙ ap (λ (x : PartState). x.phase) same ∙ answer in
    cc

taken_later : (seat : CallPart) (reply : List ℕ) (es : List Event) (e : Event) → WasTaken seat reply es → WasTaken seat reply (es ++ e ∷ [])
taken_later seat reply es e w = record { number = w.number; taken = Contains-append_left es (e ∷ []) _ w.taken; ran = w.ran }

began_cases : (seat : CallPart) (es : List Event) (e : Event) → Began (es ++ e ∷ []) seat → Began es seat ⊎ ((parts : List PartState) × (e ≡ Begin seat.call seat.caller parts) × (slice_get parts seat.part ≡ Some seat.began))
began_cases seat es e b = elim (Contains-push_cases es e (Begin seat.call seat.caller b.parts) b.began) [
  | inl old ↦ inl (record { parts = b.parts; began = old; part_is = b.part_is })
  | inr now ↦ inr (b.parts, now, b.part_is)
]

pub was_taken : (seat : CallPart) (reply : List ℕ) (events : List Event) (s : State) (p : PartState) → RunBy AsQueue start events s → Began events seat → part_at seat.call seat.part s ≡ Some p → p.phase ≡ Answered reply → WasTaken seat reply events
was_taken seat reply events s p run began at is = always AsQueue (λ es t. Began es seat → (q : PartState) → part_at seat.call seat.part t ≡ Some q → q.phase ≡ Answered reply → WasTaken seat reply es)
    (λ b. absurd (nothing_in _ b.began))
    (λ es e t reached may old b q here answer. elim (began_cases seat es e b) [
      | inl before ↦
          let h = stands seat es t reached before in
          let came = part_came e seat.call seat.part t q may h.bound here in
          elim (answer_from seat.call seat.part e came.1 came.0 reply (sym came.3 ∙ answer)) [
            | inl so ↦ taken_later seat reply es e (old before came.0 came.2 so)
            | inr now ↦ record {
              number = now.0;
              taken = subst (λ x. Contains (es ++ e ∷ []) x) now.1 (Contains-push es e);
              ran = ap (λ (x : PartState). is_refusal x reply) (sym (as_begun seat es t came.0 h came.2)) ∙ now.2;
            }
          ]
      | inr now ↦ absurd (just_began seat t now.0 (subst (λ x. MayBy AsQueue x t) now.1 may) now.2 q reply (ap (λ x. part_at seat.call seat.part (after x t)) (sym now.1) ∙ here) answer)
    ])
    events s run began p at is

-- ---- what was asked

contains_asks : (call part : ℕ) (requests : List Ask) (request : List ℕ) → Contains requests (Part call part, request) → asks call part requests ≡ true
contains_asks call part [] request h = absurd (nothing_in _ h)
contains_asks call part (ask ∷ more) request h = elim (Contains-append_cases (ask ∷ []) more (Part call part, request) h) [
  | inl first ↦
      let is : ask ≡ (Part call part, request) = only_one ask _ first in
      let own : is_part call part (Part call part) ≡ true = rw (eq-eqb call call refl, eq-eqb part part refl) refl in
      let here : is_part call part ask.0 ≡ true = ap (λ (a : Ask). is_part call part a.0) is ∙ own in
      rw here refl
  | inr later ↦ by_test (is_part call part ask.0) (λ k. rw k refl) (λ k. rw k (contains_asks call part more request later))
]

no_steps : (seat : CallPart) (es : List Event) (e : Event) → steps seat es ≡ [] → Contains es e → step_of seat e ≡ None
no_steps seat [] e h there = absurd (nothing_in _ there)
no_steps seat (x ∷ es) e h there = elim (Contains-append_cases (x ∷ []) es e there) [
  | inl first ↦ ap (step_of seat) (sym (only_one x e first)) ∙ (none_of (step_of seat x) (steps seat es) h).0
  | inr later ↦ no_steps seat es e (none_of (step_of seat x) (steps seat es) h).1 later
]

pub was_asked : (seat : CallPart) (request : List ℕ) (events : List Event) (s : State) → RunBy AsQueue start events s → Began events seat → WasAsked seat request events → request ≡ seat.began.request
was_asked seat request events s run began asked = always AsQueue (λ es t. Began es seat → WasAsked seat request es → request ≡ seat.began.request)
    (λ b. absurd (nothing_in _ b.began))
    (λ es e t reached may old b w. elim (Contains-push_cases es e (On w.number (link.Put w.requests)) w.put) [
      | inl before ↦ elim (began_cases seat es e b) [
        | inl so ↦ old so (record { number = w.number; requests = w.requests; put = before; among = w.among })
        | inr now ↦
            let none = unbegun seat es t reached (let first = (subst (λ x. MayBy AsQueue x t) now.1 may).0 in omega (arith, first)) in
            let step : step_of seat (On w.number (link.Put w.requests)) ≡ Some (Asked w.number) = rw (contains_asks seat.call seat.part w.requests request w.among) refl in
            let two : None ≡ Some (Asked w.number) = sym (no_steps seat es _ none before) ∙ step in
            absurd (cc)
      ]
      | inr now ↦ elim (began_cases seat es e b) [
        | inl so ↦
            let h = stands seat es t reached so in
            let ask = (subst (λ x. MayBy AsQueue x t) now may).may_put seat.call seat.part request w.among in
            sym ask.request_is ∙ ap (λ (p : PartState). p.request) (asked_here seat es t h w.number request ask).1
        | inr begins ↦ let two : Begin seat.call seat.caller begins.0 ≡ On w.number (link.Put w.requests) = sym begins.1 ∙ now in absurd (cc)
      ]
    ])
    events s run began asked
