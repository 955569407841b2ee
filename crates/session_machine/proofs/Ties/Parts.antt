-- A part, and its status in the order of its caller.
use Rattle.std.proofs.Common.{◌≡◌, ◌&&◌, ℕ, Bool, true, false, eqb, List, refl, sym, ap, ◌∙◌}
use Rattle.std.proofs.lemmas.Bool.{false≢true, eqb-true, eq-eqb}
use Rattle.resp_core.proofs.Cases.{by_test}
use Rattle.session_core.specs.declared.ordered_part.Status.TheVariants as status
use Rattle.session_core.specs.declared.part.PartOrder.{PartOrder}
use Rattle.session_core.specs.declared.part.PartOrder.TheVariants.{OfSlot, Whole, Free}
use Rattle.session_core.specs.declared.part.Cause.{Cause}
use Rattle.session_core.specs.declared.part.Cause.TheVariants.{GivenUp}
use Rattle.session_core.specs.LinkEvents as link
use Rattle.session_core.specs.Order.{is_done, is_effective}
use Rattle.session_core.specs.Part.{PartState, Phase, Waits, Asked, Answered, Lost, Refused, Unsent, is_waiting, is_on, is_settled, is_refusal, have_order, phase_asked, phase_told, phase_lost, phase_ended}
use Rattle.session_core.specs.Part.{is_done as part_done, is_effective as part_effective}
use Rattle.session_core.specs.State.{CallState, State, Event, On, GiveUp, End, asks, is_part, phase_after, Has}
use Rattle.session_core.proofs.AfterEvents.{same_call}
use Rattle.session_core.proofs.Waiting.{part_is, same_part}
use Rattle.session_machine.specs.Ties.{status_of, is_ordered}

-- ---- statuses and phases

pub done_status : (f : Phase) → is_done (status_of f) ≡ part_done f
done_status (Waits left) = refl
done_status (Asked link left) = refl
done_status (Answered reply) = refl
done_status Lost = refl
done_status (Refused error) = refl
done_status (Unsent cause) = refl

pub effective_status : (f : Phase) → is_effective (status_of f) ≡ part_effective f
effective_status (Waits left) = refl
effective_status (Asked link left) = refl
effective_status (Answered reply) = refl
effective_status Lost = refl
effective_status (Refused error) = refl
effective_status (Unsent cause) = refl

pub waiting_status : (f : Phase) → status_of f ≡ status.Waits → is_waiting f ≡ true
waiting_status (Waits left) e = refl
waiting_status (Asked link left) e = absurd (cc)
waiting_status (Answered reply) e = absurd (cc)
waiting_status Lost e = absurd (cc)
waiting_status (Refused error) e = absurd (cc)
waiting_status (Unsent cause) e = absurd (cc)

pub status_waiting : (f : Phase) → is_waiting f ≡ true → status_of f ≡ status.Waits
status_waiting (Waits left) e = refl
status_waiting (Asked link left) e = absurd (false≢true e)
status_waiting (Answered reply) e = absurd (false≢true e)
status_waiting Lost e = absurd (false≢true e)
status_waiting (Refused error) e = absurd (false≢true e)
status_waiting (Unsent cause) e = absurd (false≢true e)

pub on_status : (f : Phase) (number : ℕ) → status_of f ≡ status.Asked number → is_on number f ≡ true
on_status (Waits left) number e = absurd (cc)
on_status (Asked link left) number e = let same : link ≡ number = cc in eq-eqb link number same
on_status (Answered reply) number e = absurd (cc)
on_status Lost number e = absurd (cc)
on_status (Refused error) number e = absurd (cc)
on_status (Unsent cause) number e = absurd (cc)

pub status_on : (f : Phase) (number : ℕ) → is_on number f ≡ true → status_of f ≡ status.Asked number
status_on (Waits left) number e = absurd (false≢true e)
status_on (Asked link left) number e = ap status.Asked (eqb-true link number e)
status_on (Answered reply) number e = absurd (false≢true e)
status_on Lost number e = absurd (false≢true e)
status_on (Refused error) number e = absurd (false≢true e)
status_on (Unsent cause) number e = absurd (false≢true e)

pub settled_status : (f : Phase) → status_of f ≡ status.Settled → is_settled f ≡ true
settled_status (Waits left) e = absurd (cc)
settled_status (Asked link left) e = absurd (cc)
settled_status (Answered reply) e = refl
settled_status Lost e = refl
settled_status (Refused error) e = absurd (cc)
settled_status (Unsent cause) e = absurd (cc)

-- what waits is not done, nor what is on its way
pub waiting_undone : (f : Phase) → is_waiting f ≡ true → part_done f ≡ false
waiting_undone f e = sym (done_status f) ∙ ap is_done (status_waiting f e)

pub on_undone : (f : Phase) (number : ℕ) → is_on number f ≡ true → part_done f ≡ false
on_undone f number e = sym (done_status f) ∙ ap is_done (status_on f number e)

-- ---- orders

pub ordered_first : (a b : PartOrder) → have_order a b ≡ true → is_ordered a ≡ true
ordered_first (OfSlot slot) b e = refl
ordered_first Whole b e = refl
ordered_first Free b e = absurd (false≢true e)

pub ordered_second : (a b : PartOrder) → have_order a b ≡ true → is_ordered b ≡ true
ordered_second (OfSlot slot) (OfSlot other) e = refl
ordered_second (OfSlot slot) Whole e = refl
ordered_second (OfSlot slot) Free e = absurd (false≢true e)
ordered_second Whole (OfSlot other) e = refl
ordered_second Whole Whole e = refl
ordered_second Whole Free e = absurd (false≢true e)
ordered_second Free b e = absurd (false≢true e)

pub not_free : (a : PartOrder) → is_ordered a ≡ true → a ≡ Free → ⊥
not_free a o e = false≢true (ap is_ordered (sym e) ∙ o)

-- ---- a part is the only one of its numbers

pub one_part : {s : State} {caller other call part : ℕ} {p q : PartState} → Has s caller call part p → Has s other call part q → p ≡ q
one_part {s = s} {caller = caller} {other = other} {call = call} {part = part} {p = p} {q = q} a b = same_part p q (sym (part_is caller call part s p a) ∙ part_is other call part s q b)

pub one_caller : {s : State} {caller other call part next : ℕ} {p q : PartState} → Has s caller call part p → Has s other call next q → caller ≡ other
one_caller a b = sym a.caller_is ∙ ap (λ (c : CallState). c.caller) (same_call a.state b.state (sym a.call_is ∙ b.call_is)) ∙ b.caller_is

-- ---- nothing happens to a part that is done

asked_done : (number : ℕ) (f : Phase) → part_done f ≡ true → phase_asked number f ≡ f
asked_done number (Waits left) h = absurd (false≢true h)
asked_done number (Asked link left) h = refl
asked_done number (Answered reply) h = refl
asked_done number Lost h = refl
asked_done number (Refused error) h = refl
asked_done number (Unsent cause) h = refl

told_done : (wanted refusal : Bool) (reply : List ℕ) (f : Phase) → part_done f ≡ true → phase_told wanted refusal reply f ≡ f
told_done wanted refusal reply (Waits left) h = refl
told_done wanted refusal reply (Asked link left) h = absurd (false≢true h)
told_done wanted refusal reply (Answered old) h = refl
told_done wanted refusal reply Lost h = refl
told_done wanted refusal reply (Refused error) h = refl
told_done wanted refusal reply (Unsent cause) h = refl

lost_done : (wanted begun : Bool) (f : Phase) → part_done f ≡ true → phase_lost wanted begun f ≡ f
lost_done wanted begun (Waits left) h = refl
lost_done wanted begun (Asked link left) h = absurd (false≢true h)
lost_done wanted begun (Answered old) h = refl
lost_done wanted begun Lost h = refl
lost_done wanted begun (Refused error) h = refl
lost_done wanted begun (Unsent cause) h = refl

ended_done : (cause : Cause) (f : Phase) → part_done f ≡ true → phase_ended cause f ≡ f
ended_done cause (Waits left) h = absurd (false≢true h)
ended_done cause (Asked link left) h = refl
ended_done cause (Answered old) h = refl
ended_done cause Lost h = refl
ended_done cause (Refused error) h = refl
ended_done cause (Unsent other) h = refl

pub done_stays : (e : Event) (call part : ℕ) (wanted : Bool) (p : PartState) → part_done p.phase ≡ true → phase_after call part e wanted p ≡ p.phase
done_stays (On number (link.Put requests)) call part wanted p h = by_test (asks call part requests) (λ k. rw k (asked_done number p.phase h)) (λ k. rw k refl)
done_stays (On number (link.Take ticket reply)) call part wanted p h =
    by_test (is_part call part ticket) (λ k. rw k (told_done wanted (is_refusal p reply) reply p.phase h)) (λ k. rw k refl)
done_stays (On number (link.Lose ticket begun)) call part wanted p h = by_test (is_part call part ticket) (λ k. rw k (lost_done wanted begun p.phase h)) (λ k. rw k refl)
done_stays (GiveUp c) call part wanted p h = by_test (eqb c call) (λ k. rw k (ended_done GivenUp p.phase h)) (λ k. rw k refl)
done_stays (End c q cause) call part wanted p h = by_test (eqb c call && eqb q part) (λ k. rw k (ended_done cause p.phase h)) (λ k. rw k refl)
done_stays e call part wanted p h = refl
