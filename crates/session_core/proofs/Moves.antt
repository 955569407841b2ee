-- What an event does to a part, and what its history says of it.
use Rattle.std.proofs.Common.{◌≡◌, ◌≤◌, ◌+◌, ◌++◌, ◌&&◌, ℕ, zero, suc, Bool, true, false, cond, eqb, List, [], ◌∷◌, Option, None, Some, refl, sym, ap, ◌∙◌, arith}
use Rattle.std.specs.List.{last_or, count_by}
use Rattle.std.proofs.lemmas.List.Sums.{sum_by-append, sum_by-cons}
use Rattle.resp_core.proofs.Cases.{by_test}
use Rattle.session_core.specs.declared.part.Cause.{Cause}
use Rattle.session_core.specs.declared.part.Cause.TheVariants.{GivenUp}
use Rattle.session_core.specs.LinkEvents as link
use Rattle.session_core.specs.Part.{PartState, Phase, Waits, Answered, Lost, Unsent, is_waiting, is_on, is_refusal, phase_told, phase_lost, phase_ended}
use Rattle.session_core.specs.Part as part
use Rattle.session_core.specs.State.{State, Event, On, GiveUp, End, part_at, is_part, asks, phase_after, MayBy}
use Rattle.session_core.specs.History.{AsQueue, CallPart, Step, Asked, Refused, Unwritten, Settled, step_of, is_ask, is_unwritten, may_follow, may_all_follow, is_there}
use Rattle.session_core.proofs.Runs.{last_more}
use Rattle.session_core.proofs.AfterEvents.{in_phase}
use Rattle.session_core.proofs.Waiting.{IsSingle, may_ask, part_is, same_part, that_waits, first_there, on_its_way}

-- what a step of a part does to its phase
pub data Moves : Option Step → Phase → Phase → Type 0 where
  stays : (f : Phase) → Moves None f f
  ends : (left : ℕ) → (cause : Cause) → Moves None (Waits left) (Unsent cause)
  goes_out : (link left : ℕ) → Moves (Some (Asked link)) (Waits left) (part.Asked link left)
  refused : (link left : ℕ) → Moves (Some Refused) (part.Asked link (suc left)) (Waits left)
  refused_last : (link : ℕ) → (reply : List ℕ) → Moves (Some Refused) (part.Asked link zero) (part.Refused reply)
  refused_unwanted : (link left : ℕ) → Moves (Some Refused) (part.Asked link left) (Unsent GivenUp)
  unwritten : (link left : ℕ) → Moves (Some Unwritten) (part.Asked link left) (Waits left)
  unwritten_unwanted : (link left : ℕ) → Moves (Some Unwritten) (part.Asked link left) (Unsent GivenUp)
  answered : (link left : ℕ) → (reply : List ℕ) → Moves (Some Settled) (part.Asked link left) (Answered reply)
  lost : (link left : ℕ) → Moves (Some Settled) (part.Asked link left) Lost

told : (link left : ℕ) (wanted refusal : Bool) (reply : List ℕ) → Moves (Some (cond refusal Refused Settled)) (part.Asked link left) (phase_told wanted refusal reply (part.Asked link left))
told link left true false reply = answered link left reply
told link left false false reply = answered link left reply
told link zero true true reply = refused_last link reply
told link (suc left) true true reply = refused link left
told link left false true reply = refused_unwanted link left

ended_link : (link left : ℕ) (wanted begun : Bool) → Moves (Some (cond begun Settled Unwritten)) (part.Asked link left) (phase_lost wanted begun (part.Asked link left))
ended_link link left true true = lost link left
ended_link link left false true = lost link left
ended_link link left true false = unwritten link left
ended_link link left false false = unwritten_unwanted link left

ended : (cause : Cause) (f : Phase) → Moves None f (phase_ended cause f)
ended cause (Waits left) = ends left cause
ended cause (part.Asked link left) = stays (part.Asked link left)
ended cause (Answered reply) = stays (Answered reply)
ended cause Lost = stays Lost
ended cause (part.Refused error) = stays (part.Refused error)
ended cause (Unsent other) = stays (Unsent other)

-- what an event does to a part that is there
pub moves : (seat : CallPart) (e : Event) (s : State) (wanted : Bool) (f : Phase) → IsSingle s → MayBy AsQueue e s → part_at seat.call seat.part s ≡ Some (in_phase seat.began f)
    → Moves (step_of seat e) f (phase_after seat.call seat.part e wanted (in_phase seat.began f))
moves seat (On m (link.Put requests)) s wanted f single may at =
    by_test (asks seat.call seat.part requests)
    (λ k.
    let ask = (may_ask m seat.call seat.part requests s may k).1 in
    let same : ask.it ≡ in_phase seat.began f = same_part ask.it _ (sym (part_is ask.caller seat.call seat.part s ask.it ask.has) ∙ at) in
    let w = that_waits f (ap (λ (x : PartState). is_waiting x.phase) (sym same) ∙ ask.waits) in
    rw (k, w.1) (goes_out m w.0))
    (λ k. rw k (stays f))
moves seat (On m (link.Take ticket reply)) s wanted f single may at =
    by_test (is_part seat.call seat.part ticket)
    (λ k.
    let w = on_its_way m f (ap (is_there m) (sym at) ∙ first_there m seat.call seat.part ticket may.channel may.may.0 s single may.link_is may.may.1 may.may.2 k) in
    rw (k, w.1) (told m w.0 wanted (is_refusal seat.began reply) reply))
    (λ k. rw k (stays f))
moves seat (On m (link.Lose ticket begun)) s wanted f single may at =
    by_test (is_part seat.call seat.part ticket)
    (λ k.
    let w = on_its_way m f (ap (is_there m) (sym at) ∙ first_there m seat.call seat.part ticket may.channel may.may.0 s single may.link_is may.may.1 may.may.2 k) in
    rw (k, w.1) (ended_link m w.0 wanted begun))
    (λ k. rw k (stays f))
moves seat (GiveUp c) s wanted f single may at = by_test (eqb c seat.call) (λ k. rw k (ended GivenUp f)) (λ k. rw k (stays f))
moves seat (End c q cause) s wanted f single may at = by_test (eqb c seat.call && eqb q seat.part) (λ k. rw k (ended cause f)) (λ k. rw k (stays f))
moves seat e s wanted f single may at = stays f

-- ---- what the steps of a part say of its phase

-- the last step, if the part has an effect by it
abbrev pub effect : Option Step → Option Step
effect (Some (Asked link)) = Some (Asked link)
effect (Some Settled) = Some Settled
effect other = None

abbrev pub effect_of : Phase → Option Step
effect_of (part.Asked link left) = Some (Asked link)
effect_of (Answered reply) = Some Settled
effect_of Lost = Some Settled
effect_of other = None

-- how often a part may still be asked
abbrev pub budget : Phase → ℕ
budget (Waits left) = left + 1
budget (part.Asked link left) = left
budget other = 0

pub record Knows (began : Phase) (happened : List Step) (phase : Phase) : Type 0 where
  pub last : effect (last_or None happened) ≡ effect_of phase
  pub few : count_by is_ask happened + budget phase ≤ budget began + count_by is_unwritten happened
  pub in_turn : may_all_follow None happened ≡ true

pub follow-append : (o : Option Step) (xs : List Step) (x : Step) → may_all_follow o (xs ++ x ∷ []) ≡ (may_all_follow o xs && may_follow (last_or o xs) x)
follow-append o [] x = by_test (may_follow o x) (λ k. rw k refl) (λ k. rw k refl)
follow-append o (y ∷ xs) x = by_test (may_follow o y) (λ k. rw k (follow-append (Some y) xs x)) (λ k. rw k refl)

count_more : (p : Step → Bool) (xs : List Step) (x : Step) → count_by p (xs ++ x ∷ []) ≡ count_by p xs + cond (p x) 1 0
count_more p xs x = omega (arith, sum_by-append (λ y. cond (p y) 1 0) xs (x ∷ []), sum_by-cons (λ y. cond (p y) 1 0) x [])

one_more : (b : Phase) (st : List Step) (f g : Phase) (x : Step) → Knows b st f → effect (Some x) ≡ effect_of g → cond (is_ask x) 1 0 + budget g ≤ budget f + cond (is_unwritten x) 1 0
    → may_follow (last_or None st) x ≡ true → Knows b (st ++ x ∷ []) g
one_more b st f g x h last few next = record {
  last = ap effect (last_more None st x) ∙ last;
  few = omega (arith, h.few, few, count_more is_ask st x, count_more is_unwritten st x);
  in_turn = follow-append None st x ∙ rw (h.in_turn, next) refl;
}

may_ask_next : (o : Option Step) (link : ℕ) → effect o ≡ None → may_follow o (Asked link) ≡ true
may_ask_next None link h = refl
may_ask_next (Some (Asked other)) link h = absurd (cc)
may_ask_next (Some Refused) link h = refl
may_ask_next (Some Unwritten) link h = refl
may_ask_next (Some Settled) link h = absurd (cc)

may_end_next : (o : Option Step) (link : ℕ) (x : Step) → effect o ≡ Some (Asked link) → is_ask x ≡ false → may_follow o x ≡ true
may_end_next None link x h k = absurd (cc)
may_end_next (Some (Asked other)) link x h k = rw k refl
may_end_next (Some Refused) link x h k = absurd (cc)
may_end_next (Some Unwritten) link x h k = absurd (cc)
may_end_next (Some Settled) link x h k = absurd (cc)

-- the steps after one more
abbrev pub with_step : Option Step → List Step → List Step
with_step None st = st
with_step (Some x) st = st ++ x ∷ []

pub knows_more : (b : Phase) (st : List Step) (o : Option Step) (f g : Phase) → Moves o f g → Knows b st f → Knows b (with_step o st) g
knows_more b st o f g (stays x) h = h
knows_more b st o f g (ends left cause) h = record { last = h.last; few = omega (arith, h.few); in_turn = h.in_turn }
knows_more b st o f g (goes_out link left) h = one_more b st f g (Asked link) h refl (omega arith) (may_ask_next (last_or None st) link h.last)
knows_more b st o f g (refused link left) h = one_more b st f g Refused h refl (omega arith) (may_end_next (last_or None st) link Refused h.last refl)
knows_more b st o f g (refused_last link reply) h = one_more b st f g Refused h refl (omega arith) (may_end_next (last_or None st) link Refused h.last refl)
knows_more b st o f g (refused_unwanted link left) h = one_more b st f g Refused h refl (omega arith) (may_end_next (last_or None st) link Refused h.last refl)
knows_more b st o f g (unwritten link left) h = one_more b st f g Unwritten h refl (omega arith) (may_end_next (last_or None st) link Unwritten h.last refl)
knows_more b st o f g (unwritten_unwanted link left) h = one_more b st f g Unwritten h refl (omega arith) (may_end_next (last_or None st) link Unwritten h.last refl)
knows_more b st o f g (answered link left reply) h = one_more b st f g Settled h refl (omega arith) (may_end_next (last_or None st) link Settled h.last refl)
knows_more b st o f g (lost link left) h = one_more b st f g Settled h refl (omega arith) (may_end_next (last_or None st) link Settled h.last refl)
