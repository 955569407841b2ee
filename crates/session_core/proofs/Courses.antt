-- How far each part is that began, by its own steps.
use Rattle.std.proofs.Common.{◌≡◌, ◌<◌, ◌≤◌, ◌+◌, ◌++◌, ◌⊎◌, inl, inr, ℕ, true, false, List, [], ◌∷◌, Option, None, Some, refl, sym, ap, ◌∙◌, subst, arith}
use Rattle.std.specs.List.{slice_get, cons_option}
use Rattle.std.specs.Option.{option_map, option_and_then}
use Rattle.std.proofs.lemmas.List.{append-nil}
use Rattle.std.proofs.lemmas.List.Elements.{filter_map-append, Contains-push_cases}
use Rattle.session_core.specs.LinkEvents as link
use Rattle.session_core.specs.Part.{PartState, Phase, Waits, is_waiting, is_done}
use Rattle.session_core.specs.State.{CallState, State, Event, On, Begin, start, begun, call_at, part_at, phase_after, left_call, MayBy, Has, IsTurn, after, RunBy}
use Rattle.session_core.specs.History.{AsQueue, CallPart, Began, Step, step_of, steps, AreTries}
use Rattle.session_core.proofs.Runs.{always}
use Rattle.session_core.proofs.AfterEvents.{nothing_in, in_phase, all_at, seen, not_begun, begun_after, same_call, call_goes, call_came, begins}
use Rattle.session_core.proofs.Waiting.{IsSingle, single, part_is, same_part, none_there, touches, untouched, IsIdle, that_waits}
use Rattle.session_core.proofs.Moves.{Moves, moves, Knows, budget, knows_more, with_step}

-- ---- steps

add_step : (o : Option Step) (st : List Step) → st ++ cons_option o [] ≡ with_step o st
add_step None st = append-nil st
add_step (Some x) st = refl

pub steps_more : (seat : CallPart) (es : List Event) (e : Event) → steps seat (es ++ e ∷ []) ≡ with_step (step_of seat e) (steps seat es)
steps_more seat es e = filter_map-append (step_of seat) es (e ∷ []) ∙ add_step (step_of seat e) (steps seat es)

pub no_step : (seat : CallPart) (e : Event) → touches seat.call seat.part e ≡ false → step_of seat e ≡ None
no_step seat (On m (link.Put requests)) h = rw h refl
no_step seat (On m (link.Take ticket reply)) h = rw h refl
no_step seat (On m (link.Lose ticket begun)) h = rw h refl
no_step seat e h = refl

-- nothing happens to a part before its call begins
pub unbegun : (seat : CallPart) (events : List Event) (s : State) → RunBy AsQueue start events s → begun s ≤ seat.call → steps seat events ≡ []
unbegun seat events s run = always AsQueue (λ es t. begun t ≤ seat.call → steps seat es ≡ []) (λ h. refl)
    (λ es e t reached may holds new.
    let old : begun t ≤ seat.call = omega (arith, new, begun_after AsQueue e t may) in
    let idle : IsIdle seat.call seat.part t = λ p at. (let z : None ≡ Some p = sym (none_there seat.part seat.call t (inl (not_begun seat.call t old))) ∙ at in absurd (cc)) in
    steps_more seat es e ∙ ap (λ o. with_step o (steps seat es)) (no_step seat e (untouched seat.call seat.part e t (single es t reached) may idle)) ∙ holds old)
    events s run

-- ---- where a part is

abbrev pub IsUnwanted : ℕ → State → Type 0
IsUnwanted call s = (c : CallState) → call_at call s ≡ Some c → c.is_wanted ≡ false

-- its place is forgotten
pub record IsAway (seat : CallPart) (phase : Phase) (s : State) : Type 0 where
  pub away : part_at seat.call seat.part s ≡ None
  pub unwanted : IsUnwanted seat.call s
  pub done : is_done phase ≡ true
  pub turn : IsTurn s seat.caller seat.call

abbrev pub IsHere : CallPart → Phase → State → Type 0
IsHere seat phase s = Has s seat.caller seat.call seat.part (in_phase seat.began phase) ⊎ IsAway seat phase s

pub record Stands (seat : CallPart) (es : List Event) (s : State) : Type 0 where
  pub phase : Phase
  pub bound : seat.call < begun s
  pub here : IsHere seat phase s
  pub knows : Knows seat.began.phase (steps seat es) phase

turn_after : (caller call : ℕ) (e : Event) (s : State) → MayBy AsQueue e s → call < begun s → IsTurn s caller call → IsTurn (after e s) caller call
turn_after caller call e s may bound turn = λ n d lt is own. elim (call_came AsQueue e n s d may (omega (arith, lt, bound)) is) [
  | inl c ↦
      let old : c.0.is_wanted ≡ false = turn n c.0 lt c.1 (sym c.2.caller ∙ own) in
      c.2.wanted ∙ rw old refl
  | inr left ↦ ap (λ (x : CallState). x.is_wanted) left
]

unwanted_after : (call : ℕ) (e : Event) (s : State) → MayBy AsQueue e s → call < begun s → IsUnwanted call s → IsUnwanted call (after e s)
unwanted_after call e s may bound none = λ d is. elim (call_came AsQueue e call s d may bound is) [
  | inl c ↦
      let old : c.0.is_wanted ≡ false = none c.0 c.1 in
      c.2.wanted ∙ rw old refl
  | inr left ↦ ap (λ (x : CallState). x.is_wanted) left
]

unwanted_gone : (call : ℕ) (s : State) → (call_at call s ≡ None) ⊎ (call_at call s ≡ Some left_call) → IsUnwanted call s
unwanted_gone call s away = λ d is. elim away [
  | inl none ↦ let two : None ≡ Some d = sym none ∙ is in absurd (cc)
  | inr left ↦ ap (λ (x : CallState). x.is_wanted) (same_call d left_call (sym is ∙ left))
]

part_of : (part : ℕ) (s : State) (call : ℕ) (c : CallState) → call_at call s ≡ Some c → part_at call part s ≡ slice_get c.parts part
part_of part s call c is = ap (option_and_then (λ x. slice_get x.parts part)) is

away_after : (call part : ℕ) (e : Event) (s : State) → MayBy AsQueue e s → call < begun s → part_at call part s ≡ None → part_at call part (after e s) ≡ None
away_after call part e s may bound none = elim (seen (call_at call (after e s))) [
  | inl gone ↦ none_there part call (after e s) (inl gone)
  | inr d ↦ elim (call_came AsQueue e call s d.0 may bound d.1) [
    | inl c ↦ part_of part (after e s) call d.0 d.1 ∙ c.2.parts part ∙ ap (option_map (λ p. in_phase p (phase_after call part e c.0.is_wanted p))) (sym (part_of part s call c.0 c.1) ∙ none)
    | inr left ↦ none_there part call (after e s) (inr (d.1 ∙ ap Some left))
  ]
]

idle_if_none : (call part : ℕ) (s : State) → part_at call part s ≡ None → IsIdle call part s
idle_if_none call part s none = λ p at. (let z : None ≡ Some p = sym none ∙ at in absurd (cc))

knows_on : (seat : CallPart) (es : List Event) (e : Event) (f g : Phase) → Moves (step_of seat e) f g → Knows seat.began.phase (steps seat es) f → Knows seat.began.phase (steps seat (es ++ e ∷ [])) g
knows_on seat es e f g move h = subst (λ st. Knows seat.began.phase st g) (sym (steps_more seat es e)) (knows_more seat.began.phase (steps seat es) (step_of seat e) f g move h)

-- a part that is done or away is not touched, and stays as it is
knows_same : (seat : CallPart) (es : List Event) (e : Event) (s : State) (f : Phase) → IsSingle s → MayBy AsQueue e s → IsIdle seat.call seat.part s → Knows seat.began.phase (steps seat es) f → Knows seat.began.phase (steps seat (es ++ e ∷ [])) f
knows_same seat es e s f one may idle h =
    let none = no_step seat e (untouched seat.call seat.part e s one may idle) in
    subst (λ st. Knows seat.began.phase st f) (sym (steps_more seat es e ∙ ap (λ o. with_step o (steps seat es)) none)) h

stands_after : (seat : CallPart) (es : List Event) (e : Event) (s : State) → IsSingle s → MayBy AsQueue e s → Stands seat es s → Stands seat (es ++ e ∷ []) (after e s)
stands_after seat es e s one may h =
    let bound : seat.call < begun (after e s) = omega (arith, h.bound, begun_after AsQueue e s may) in
    elim h.here [
      | inl has ↦
          let at = part_is seat.caller seat.call seat.part s (in_phase seat.began h.phase) has in
          elim (call_goes AsQueue e seat.call s has.state may has.call_is) [
            | inl d ↦ record {
              phase = phase_after seat.call seat.part e has.state.is_wanted (in_phase seat.began h.phase);
              bound = bound;
              here = inl (record {
                state = d.0;
                call_is = d.1;
                caller_is = d.2.caller ∙ has.caller_is;
                part_is = d.2.parts seat.part ∙ ap (option_map (λ p. in_phase p (phase_after seat.call seat.part e has.state.is_wanted p))) has.part_is;
              });
              knows = knows_on seat es e h.phase _ (moves seat e s has.state.is_wanted h.phase one may at) h.knows;
            }
            | inr v ↦
                let done : is_done h.phase ≡ true = all_at (λ p. is_done p.phase) has.state.parts seat.part (in_phase seat.began h.phase) v.done has.part_is in
                record {
                  phase = h.phase;
                  bound = bound;
                  here = inr (record {
                    away = none_there seat.part seat.call (after e s) v.away;
                    unwanted = unwanted_gone seat.call (after e s) v.away;
                    done = done;
                    turn = turn_after seat.caller seat.call e s may h.bound (subst (λ n. IsTurn s n seat.call) has.caller_is v.turn);
                  });
                  knows = knows_same seat es e s h.phase one may (λ p is. ap (λ (x : PartState). is_done x.phase) (same_part p _ (sym is ∙ at)) ∙ done) h.knows;
                }
          ]
      | inr gone ↦ record {
        phase = h.phase;
        bound = bound;
        here = inr (record {
          away = away_after seat.call seat.part e s may h.bound gone.away;
          unwanted = unwanted_after seat.call e s may h.bound gone.unwanted;
          done = gone.done;
          turn = turn_after seat.caller seat.call e s may h.bound gone.turn;
        });
        knows = knows_same seat es e s h.phase one may (idle_if_none seat.call seat.part s gone.away) h.knows;
      }
    ]

-- a call that begins now
stands_new : (seat : CallPart) (es : List Event) (parts : List PartState) (s : State) → RunBy AsQueue start es s → MayBy AsQueue (Begin seat.call seat.caller parts) s → slice_get parts seat.part ≡ Some seat.began
    → Stands seat (es ++ Begin seat.call seat.caller parts ∷ []) (after (Begin seat.call seat.caller parts) s)
stands_new seat es parts s reached may is =
    let w = that_waits seat.began.phase (all_at (λ p. is_waiting p.phase) parts seat.part seat.began may.1 is) in
    let none : steps seat (es ++ Begin seat.call seat.caller parts ∷ []) ≡ [] = steps_more seat es (Begin seat.call seat.caller parts) ∙ unbegun seat es s reached (omega (arith, may.0)) in
    record {
      phase = seat.began.phase;
      bound = omega (arith, may.0, begun_after AsQueue (Begin seat.call seat.caller parts) s may);
      here = inl (record {
        state = record { caller = seat.caller; parts = parts; is_wanted = true };
        call_is = begins seat.call seat.caller parts s may.0;
        caller_is = refl;
        part_is = is;
      });
      knows = subst (λ st. Knows seat.began.phase st seat.began.phase) (sym none) (rw w.1 (record { last = refl; few = omega arith; in_turn = refl }));
    }

-- how far a part is, whatever has happened since its call began
pub stands : (seat : CallPart) (events : List Event) (s : State) → RunBy AsQueue start events s → Began events seat → Stands seat events s
stands seat events s run began = always AsQueue (λ es t. Began es seat → Stands seat es t) (λ b. absurd (nothing_in _ b.began))
    (λ es e t reached may holds b. elim (Contains-push_cases es e (Begin seat.call seat.caller b.parts) b.began) [
      | inl old ↦ stands_after seat es e t (single es t reached) may (holds (record { parts = b.parts; began = old; part_is = b.part_is }))
      | inr now ↦ subst (λ x. Stands seat (es ++ x ∷ []) (after x t)) (sym now) (stands_new seat es b.parts t reached (subst (λ x. MayBy AsQueue x t) now may) b.part_is)
    ])
    events s run began

pub tries : (seat : CallPart) (left : ℕ) (events : List Event) (s : State) → RunBy AsQueue start events s → Began events seat → seat.began.phase ≡ Waits left → AreTries left (steps seat events)
tries seat left events s run began is =
    let h = (stands seat events s run began).knows in
    let most : budget seat.began.phase ≡ left + 1 = ap budget is in
    record { few = omega (arith, h.few, most); in_turn = h.in_turn }
