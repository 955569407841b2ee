-- Why a part is ended, and what a call is told.
use Rattle.std.proofs.Common.{◌≡◌, ◌<◌, ◌++◌, inl, inr, ℕ, true, false, not, List, [], ◌∷◌, Option, None, Some, refl, sym, ap, ◌∙◌, subst, append-nil, arith}
use Rattle.std.specs.Prelude.{Contains}
use Rattle.std.specs.List.{slice_get, last_or}
use Rattle.std.specs.Option.{option_map, option_and_then}
use Rattle.std.proofs.lemmas.Bool.{false≢true, eq-eqb, cases_lt}
use Rattle.std.proofs.lemmas.List.Elements.{filter_map-append, Contains-append_left, Contains-push, Contains-push_cases}
use Rattle.resp_core.proofs.Cases.{and_first, and_second}
use Rattle.session_core.specs.declared.part.Cause.TheVariants.{Overtaken}
use Rattle.session_core.specs.Channel.{Ask}
use Rattle.session_core.specs.LinkEvents as link
use Rattle.session_core.specs.Part.{PartState, Phase, Waits, Answered, Lost, Unsent, is_settled, is_effective, have_slot}
use Rattle.session_core.specs.Part as part
use Rattle.session_core.specs.State.{CallState, State, Event, On, Begin, End, Finish, start, begun, call_at, asks, nothing_done, phase_after, MayBy, Has, IsPassed, RunBy}
use Rattle.session_core.specs.History.{AsQueue, CallPart, Began, Step, Asked, Refused, Unwritten, Settled, step_of, steps, is_ask, may_follow, may_all_follow, has_effect, takes_effect, WasPassed, WasTaken}
use Rattle.session_core.proofs.Runs.{always, split_run}
use Rattle.session_core.proofs.AfterEvents.{nothing_in, in_phase, all_at, seen, not_begun, same_call, call_came, call_new}
use Rattle.session_core.proofs.Waiting.{part_is, same_part}
use Rattle.session_core.proofs.Moves.{effect, effect_of}
use Rattle.session_core.proofs.Courses.{Stands, stands}
use Rattle.session_core.proofs.Ordering.{asked_by}
use Rattle.session_core.proofs.Answering.{as_begun, was_taken}
use Rattle.session_core.proofs.Turns.{asked_no_more}

-- ---- parts that are there

began_later : (seat : CallPart) (es more : List Event) → Began es seat → Began (es ++ more) seat
began_later seat es more b = record { parts = b.parts; began = Contains-append_left es more _ b.began; part_is = b.part_is }

abbrev pub seat_of : ℕ → ℕ → ℕ → PartState → CallPart
seat_of caller n q p = record { caller = caller; call = n; part = q; began = p }

-- The part began so with its call, and has another phase at most.
abbrev IsFrom : List Event → ℕ → ℕ → ℕ → PartState → Type 0
IsFrom es caller n q p = (began : PartState) × Began es (seat_of caller n q began) × (p ≡ in_phase began p.phase)

from_begin : (events : List Event) (s : State) → RunBy AsQueue start events s → (caller n q : ℕ) (p : PartState) → Has s caller n q p → IsFrom events caller n q p
from_begin events s run = always AsQueue (λ es t. (caller n q : ℕ) (p : PartState) → Has t caller n q p → IsFrom es caller n q p)
    (λ caller n q p has. let two : None ≡ Some has.state = sym (not_begun n start (omega arith)) ∙ has.call_is in absurd (cc))
    (λ es e t reached may old caller n q p has. elim (cases_lt n (begun t)) [
      | inl lt ↦ elim (call_came AsQueue e n t has.state may lt has.call_is) [
        | inl c ↦
            let now : option_map (λ x. in_phase x (phase_after n q e c.0.is_wanted x)) (slice_get c.0.parts q) ≡ Some p = sym (c.2.parts q) ∙ has.part_is in
            elim (seen (slice_get c.0.parts q)) [
              | inl none ↦ let two : None ≡ Some p = sym (ap (option_map (λ x. in_phase x (phase_after n q e c.0.is_wanted x))) none) ∙ now in absurd (cc)
              | inr x ↦
                  let f = phase_after n q e c.0.is_wanted x.0 in
                  let same : in_phase x.0 f ≡ p = same_part _ p (sym (ap (option_map (λ y. in_phase y (phase_after n q e c.0.is_wanted y))) x.1) ∙ now) in
                  let h = old caller n q x.0 (record { state = c.0; call_is = c.1; caller_is = sym c.2.caller ∙ has.caller_is; part_is = x.1 }) in
                  (h.0, began_later _ es (e ∷ []) h.1, sym same ∙ ap (λ y. in_phase y f) h.2 ∙ ap (λ (y : PartState). in_phase h.0 y.phase) same)
            ]
        | inr left ↦ let two : None ≡ Some p = ap (λ (y : CallState). slice_get y.parts q) (sym left) ∙ has.part_is in absurd (cc)
      ]
      | inr new ↦
          let b = call_new AsQueue e n t has.state may new has.call_is in
          let caller_is : b.0 ≡ caller = ap (λ (y : CallState). y.caller) (sym b.3) ∙ has.caller_is in
          let is : e ≡ Begin n caller b.1 = b.2 ∙ ap (λ c. Begin n c b.1) caller_is in
          (p, record { parts = b.1; began = subst (λ x. Contains (es ++ e ∷ []) x) is (Contains-push es e); part_is = ap (λ (y : CallState). slice_get y.parts q) (sym b.3) ∙ has.part_is }, refl)
    ])
    events s run

-- ---- an overtaken part

effect_settled : (f : Phase) → is_settled f ≡ true → effect_of f ≡ Some Settled
effect_settled (Waits left) h = absurd (false≢true h)
effect_settled (part.Asked link left) h = absurd (false≢true h)
effect_settled (Answered reply) h = refl
effect_settled Lost h = refl
effect_settled (part.Refused error) h = absurd (false≢true h)
effect_settled (Unsent cause) h = absurd (false≢true h)

was_settled : (o : Option Step) → effect o ≡ Some Settled → o ≡ Some Settled
was_settled None h = absurd (cc)
was_settled (Some (Asked link)) h = h
was_settled (Some Refused) h = absurd (cc)
was_settled (Some Unwritten) h = absurd (cc)
was_settled (Some Settled) h = refl

caller_of : (seat : CallPart) (es : List Event) (s : State) (caller : ℕ) (p : PartState) → Stands seat es s → Has s caller seat.call seat.part p → caller ≡ seat.caller
caller_of seat es s caller p h has = elim h.here [
  | inl here ↦ sym has.caller_is ∙ ap (λ (x : CallState). x.caller) (same_call has.state here.state (sym has.call_is ∙ here.call_is)) ∙ here.caller_is
  | inr gone ↦ let two : None ≡ Some p = sym gone.away ∙ part_is caller seat.call seat.part s p has in absurd (cc)
]

pub was_passed : (before more : List Event) (s : State) (seat : CallPart) → RunBy AsQueue start (before ++ End seat.call seat.part Overtaken ∷ more) s → Began before seat → WasPassed seat before
was_passed before more s seat run b =
    let r = split_run AsQueue before (End seat.call seat.part Overtaken ∷ more) start s run in
    let w : IsPassed r.0 seat.call seat.part = r.2.0.3 in
    let from = from_begin before r.0 r.1 w.caller w.later w.later_part w.other w.has_later in
    let later = seat_of w.caller w.later w.later_part from.0 in
    let h = stands seat before r.0 r.1 b in
    let g = stands later before r.0 r.1 from.1 in
    let it : w.it ≡ in_phase seat.began h.phase = as_begun seat before r.0 w.it h (part_is w.caller seat.call seat.part r.0 w.it w.has) in
    let other : w.other ≡ in_phase from.0 g.phase = as_begun later before r.0 w.other g (part_is w.caller w.later w.later_part r.0 w.other w.has_later) in
    record {
      later = later;
      began = from.1;
      caller_is = caller_of seat before r.0 w.caller w.it h w.has;
      is_later = w.is_later;
      same_slot = ap (λ (x : PartState). have_slot x.order from.0.order) (sym it) ∙ ap (λ (x : PartState). have_slot w.it.order x.order) (sym other) ∙ w.same_slot;
      settled = was_settled _ (g.knows.last ∙ effect_settled g.phase (ap (λ (x : PartState). is_settled x.phase) (sym other) ∙ w.settled));
    }

-- ---- parts of a call

pub parts_apart : (events : List Event) (s : State) (first second : CallPart) → RunBy AsQueue start events s → Began events first → Began events second → first.call ≡ second.call → first.part < second.part → have_slot first.began.order second.began.order ≡ false
parts_apart events s first second run one two same lt = always AsQueue (λ es t. Began es first → Began es second → have_slot first.began.order second.began.order ≡ false)
    (λ a b. absurd (nothing_in _ a.began))
    (λ es e t reached may old a b. elim (Contains-push_cases es e _ a.began) [
      | inl first_old ↦
          let first_then : Began es first = record { parts = a.parts; began = first_old; part_is = a.part_is } in
          elim (Contains-push_cases es e _ b.began) [
            | inl second_old ↦ old first_then (record { parts = b.parts; began = second_old; part_is = b.part_is })
            | inr now ↦ absurd (omega (arith, same, (stands first es t reached first_then).bound, (subst (λ x. MayBy AsQueue x t) now may).0))
          ]
      | inr now ↦
          let begins = subst (λ x. MayBy AsQueue x t) now may in
          elim (Contains-push_cases es e _ b.began) [
            | inl second_old ↦ absurd (omega (arith, same, (stands second es t reached (record { parts = b.parts; began = second_old; part_is = b.part_is })).bound, begins.0))
            | inr also ↦
                let both : Begin second.call second.caller b.parts ≡ Begin first.call first.caller a.parts = sym also ∙ now in
                let parts : b.parts ≡ a.parts = cc in
                begins.2 first.part second.part first.began second.began lt a.part_is (ap (λ xs. slice_get xs second.part) (sym parts) ∙ b.part_is)
          ]
    ])
    events s run one two

-- ---- what a call is told

pub stands_told : (before more : List Event) (s : State) (seat : CallPart) (state : CallState) → (run : RunBy AsQueue start (before ++ Finish seat.call state ∷ more) s) → Began before seat
    → (t : State) × RunBy AsQueue start before t × (call_at seat.call t ≡ Some state) × (h : Stands seat before t) × (slice_get state.parts seat.part ≡ Some (in_phase seat.began h.phase))
stands_told before more s seat state run b =
    let r = split_run AsQueue before (Finish seat.call state ∷ more) start s run in
    let may = r.2.0 in
    let h = stands seat before r.0 r.1 b in
    elim h.here [
      | inl has ↦ (r.0, r.1, may.call_is, h, ap (λ (x : CallState). slice_get x.parts seat.part) (same_call state has.state (sym may.call_is ∙ has.call_is)) ∙ has.part_is)
      | inr gone ↦ absurd (false≢true (sym (gone.unwanted state may.call_is) ∙ may.wanted))
    ]

pub reply_told : (before more : List Event) (s : State) (seat : CallPart) (state : CallState) (p : PartState) (reply : List ℕ) → RunBy AsQueue start (before ++ Finish seat.call state ∷ more) s → Began before seat
    → slice_get state.parts seat.part ≡ Some p → p.phase ≡ Answered reply → WasTaken seat reply before
reply_told before more s seat state p reply run b is answer =
    let t = stands_told before more s seat state run b in
    was_taken seat reply before t.0 p t.1 b (ap (option_and_then (λ c. slice_get c.parts seat.part)) t.2 ∙ is) answer

no_effect : (f : Phase) → not (is_effective f) ≡ true → effect_of f ≡ None
no_effect (Waits left) h = refl
no_effect (part.Asked link left) h = absurd (false≢true h)
no_effect (Answered reply) h = absurd (false≢true h)
no_effect Lost h = absurd (false≢true h)
no_effect (part.Refused error) h = refl
no_effect (Unsent cause) h = refl

ineffective : (o : Option Step) → effect o ≡ None → has_effect o ≡ false
ineffective None h = refl
ineffective (Some (Asked link)) h = absurd (cc)
ineffective (Some Refused) h = refl
ineffective (Some Unwritten) h = refl
ineffective (Some Settled) h = absurd (cc)

an_ask : (x : Step) → is_ask x ≡ true → (number : ℕ) × (x ≡ Asked number)
an_ask (Asked number) h = (number, refl)
an_ask Refused h = absurd (false≢true h)
an_ask Unwritten h = absurd (false≢true h)
an_ask Settled h = absurd (false≢true h)

-- after a step without effect comes an ask
next_asks : (o : Option Step) (x : Step) → effect o ≡ None → may_follow o x ≡ true → is_ask x ≡ true
next_asks None x none h = h
next_asks (Some (Asked link)) x none h = absurd (cc)
next_asks (Some Refused) x none h = h
next_asks (Some Unwritten) x none h = h
next_asks (Some Settled) x none h = absurd (cc)

follow_rest : (o : Option Step) (xs ys : List Step) → may_all_follow o (xs ++ ys) ≡ true → may_all_follow (last_or o xs) ys ≡ true
follow_rest o [] ys h = h
follow_rest o (x ∷ xs) ys h = follow_rest (Some x) xs ys (and_second _ _ h)

none_more : (seat : CallPart) (events : List Event) (o : Option Step) → effect o ≡ None → may_all_follow o (steps seat events) ≡ true
    → ((mid rest : List Event) (n : ℕ) (requests : List Ask) → events ≡ mid ++ On n (link.Put requests) ∷ rest → asks seat.call seat.part requests ≡ false) → steps seat events ≡ []
none_more seat [] o none follows unasked = refl
none_more seat (e ∷ events) o none follows unasked = elim (seen (step_of seat e)) [
  | inl still ↦
      let same : steps seat (e ∷ events) ≡ steps seat events = rw still refl in
      same ∙ none_more seat events o none (ap (may_all_follow o) (sym same) ∙ follows) (λ mid rest n requests is. unasked (e ∷ mid) rest n requests (ap (λ es. e ∷ es) is))
  | inr x ↦
      let first : steps seat (e ∷ events) ≡ x.0 ∷ steps seat events = rw x.1 refl in
      let both = ap (may_all_follow o) (sym first) ∙ follows in
      let ask = an_ask x.0 (next_asks o x.0 none (and_first _ _ both)) in
      let by = asked_by seat e ask.0 (x.1 ∙ ap Some ask.1) in
      absurd (false≢true (sym (unasked [] events ask.0 by.0 (ap (λ y. y ∷ events) by.1)) ∙ by.2))
]

pub nothing_told : (before more : List Event) (s : State) (seat : CallPart) (state : CallState) → RunBy AsQueue start (before ++ Finish seat.call state ∷ more) s → Began before seat → nothing_done state ≡ true
    → takes_effect seat (before ++ Finish seat.call state ∷ more) ≡ false
nothing_told before more s seat state run b nothing =
    let t = stands_told before more s seat state run b in
    let none : effect (last_or None (steps seat before)) ≡ None = t.3.knows.last ∙ no_effect t.3.phase (all_at (λ p. not (is_effective p.phase)) state.parts seat.part (in_phase seat.began t.3.phase) nothing t.4) in
    let whole : steps seat (before ++ Finish seat.call state ∷ more) ≡ steps seat before ++ steps seat more = filter_map-append (step_of seat) before (Finish seat.call state ∷ more) in
    let turn = (stands seat (before ++ Finish seat.call state ∷ more) s run (began_later seat before (Finish seat.call state ∷ more) b)).knows.in_turn in
    let rest = follow_rest None (steps seat before) (steps seat more) (ap (may_all_follow None) (sym whole) ∙ turn) in
    let ends : steps seat more ≡ [] = none_more seat more (last_or None (steps seat before)) none rest
    (λ mid rest n requests is. asked_no_more before mid rest s seat.call seat.part n (Finish seat.call state) requests (subst (λ es. RunBy AsQueue start (before ++ Finish seat.call state ∷ es) s) is run) (eq-eqb seat.call seat.call refl)) in
    ap (λ st. has_effect (last_or None st)) (whole ∙ ap (λ st. steps seat before ++ st) ends ∙ append-nil (steps seat before)) ∙ ineffective _ none
