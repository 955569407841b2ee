-- What happens on links, and to parts that are not asked any more: the orders stay tied.
use Rattle.std.proofs.Common.{◌≡◌, ◌+◌, ◌&&◌, ◌||◌, ◌⊎◌, inl, inr, ℕ, Bool, true, false, eqb, List, [], ◌∷◌, refl, sym, ap, ◌∙◌}
use Rattle.std.proofs.lemmas.Bool.{eqb-true, eq-eqb}
use Rattle.resp_core.proofs.Cases.{by_test}
use Rattle.session_core.specs.declared.link.Ticket.{Ticket}
use Rattle.session_core.specs.declared.link.Ticket.TheVariants.{Login, Map, Asking, Part}
use Rattle.session_core.specs.declared.part.Cause.{Cause}
use Rattle.session_core.specs.Channel.{Ask}
use Rattle.session_core.specs.LinkEvents as link
use Rattle.session_core.specs.Order.{Order, IsOnItsWay}
use Rattle.session_core.specs.Part.{PartState, is_on, is_refusal, phase_asked, phase_told, phase_lost, phase_ended}
use Rattle.session_core.specs.State.{State, Event, On, Begin, GiveUp, End, Leave, Trim, asks, is_part, phase_after, Has, May, after}
use Rattle.session_machine.specs.Ties.{AreTied, IsSteady, is_ordered, ordered_part}
use Rattle.session_machine.proofs.Ties.Parts.{status_on, on_undone}
use Rattle.session_machine.proofs.Ties.Asks.{stands_there}
use Rattle.session_machine.proofs.Ties.Tied.{IsOnly, tied_silent}

-- ---- which part an event has the ticket of

pub own_ticket : (call part : ℕ) → is_part call part (Part call part) ≡ true
own_ticket call part = rw (eq-eqb call call refl, eq-eqb part part refl) refl

pub other_ticket : (call part n q : ℕ) → (n ≡ call → q ≡ part → ⊥) → is_part n q (Part call part) ≡ false
other_ticket call part n q apart =
    by_test (eqb call n)
    (λ k. by_test (eqb part q)
    (λ h. absurd (apart (sym (eqb-true call n k)) (sym (eqb-true part q h))))
    (λ h. rw (k, h) refl))
    (λ k. rw k refl)

-- These requests ask one part, alone or after `ASKING`.
abbrev pub IsAskOf : (call part : ℕ) → List ℕ → List Ask → Type 0
IsAskOf call part request requests = (requests ≡ (Part call part, request) ∷ []) ⊎ (requests ≡ (Asking, link.asking) ∷ (Part call part, request) ∷ [])

asks_one : (n q : ℕ) (call part : ℕ) (request : List ℕ) (requests : List Ask) → IsAskOf call part request requests → asks n q requests ≡ is_part n q (Part call part)
asks_one n q call part request requests is = elim is [
  | inl alone ↦ ap (asks n q) alone ∙ or_none (is_part n q (Part call part))
  | inr after ↦ ap (asks n q) after ∙ or_none (is_part n q (Part call part))
]
  where
    or_none : (b : Bool) → (b || false) ≡ b
    or_none true = refl
    or_none false = refl

pub only_asked : (number call part : ℕ) (request : List ℕ) (requests : List Ask) → IsAskOf call part request requests → IsOnly call part (On number (link.Put requests))
only_asked number call part request requests is n q wanted p apart =
    let none : asks n q requests ≡ false = asks_one n q call part request requests is ∙ other_ticket call part n q apart in rw none refl

pub only_taken : (number call part : ℕ) (reply : List ℕ) → IsOnly call part (On number (link.Take (Part call part) reply))
only_taken number call part reply n q wanted p apart = rw (other_ticket call part n q apart) refl

pub only_lost : (number call part : ℕ) (begun : Bool) → IsOnly call part (On number (link.Lose (Part call part) begun))
only_lost number call part begun n q wanted p apart = rw (other_ticket call part n q apart) refl

pub only_ended : (call part : ℕ) (cause : Cause) → IsOnly call part (End call part cause)
only_ended call part cause n q wanted p apart = let none : (eqb call n && eqb part q) ≡ false = other_ticket call part n q apart in rw none refl

-- ---- what it makes of its phase

pub asked_phase : (number call part : ℕ) (request : List ℕ) (requests : List Ask) (wanted : Bool) (p : PartState) → IsAskOf call part request requests → phase_after call part (On number (link.Put requests)) wanted p ≡ phase_asked number p.phase
asked_phase number call part request requests wanted p is =
    let some : asks call part requests ≡ true = asks_one call part call part request requests is ∙ own_ticket call part in rw some refl

pub told_phase : (number call part : ℕ) (reply : List ℕ) (wanted : Bool) (p : PartState) → phase_after call part (On number (link.Take (Part call part) reply)) wanted p ≡ phase_told wanted (is_refusal p reply) reply p.phase
told_phase number call part reply wanted p = rw (own_ticket call part) refl

pub lost_phase : (number call part : ℕ) (begun wanted : Bool) (p : PartState) → phase_after call part (On number (link.Lose (Part call part) begun)) wanted p ≡ phase_lost wanted begun p.phase
lost_phase number call part begun wanted p = rw (own_ticket call part) refl

pub ended_phase : (call part : ℕ) (cause : Cause) (wanted : Bool) (p : PartState) → phase_after call part (End call part cause) wanted p ≡ phase_ended cause p.phase
ended_phase call part cause wanted p = let own : (eqb call call && eqb part part) ≡ true = own_ticket call part in rw own refl

-- a part on its way is so in the order of its caller
pub stands_on : {s : State} {places : ℕ → ℕ} {orders : ℕ → Order} {caller call part : ℕ} {p : PartState} (number : ℕ) → AreTied s places orders → Has s caller call part p → is_ordered p.order ≡ true
    → is_on number p.phase ≡ true → IsOnItsWay (places call + part) (orders caller)
stands_on {call = call} {part = part} {p = p} number t has o on = (ordered_part call part p, number, stands_there t has o (on_undone p.phase number on), status_on p.phase number on)

-- ---- events that no part has a share in

-- No part changes with this event.
abbrev pub IsQuiet : Event → Type 0
IsQuiet (On number (link.Put requests)) = (call part : ℕ) → asks call part requests ≡ false
IsQuiet (On number (link.Take ticket reply)) = link.IsPart ticket → ⊥
IsQuiet (On number (link.Lose ticket begun)) = link.IsPart ticket → ⊥
IsQuiet (Begin call caller parts) = ⊥
IsQuiet (GiveUp call) = ⊥
IsQuiet (End call part cause) = ⊥
IsQuiet (Leave call) = ⊥
IsQuiet Trim = ⊥
IsQuiet other = Unit {0}

quiet_steady : (e : Event) → IsQuiet e → IsSteady e
quiet_steady (Begin call caller parts) quiet = absurd quiet
quiet_steady (Leave call) quiet = absurd quiet
quiet_steady Trim quiet = absurd quiet
quiet_steady e quiet = tt

no_ticket : (call part : ℕ) (ticket : Ticket) → (link.IsPart ticket → ⊥) → is_part call part ticket ≡ false
no_ticket call part Login not = refl
no_ticket call part (Map n) not = refl
no_ticket call part Asking not = refl
no_ticket call part (Part c q) not = absurd (not tt)

pub quiet_phase : (e : Event) (call part : ℕ) (wanted : Bool) (p : PartState) → IsQuiet e → phase_after call part e wanted p ≡ p.phase
quiet_phase (On number (link.Put requests)) call part wanted p quiet = rw (quiet call part) refl
quiet_phase (On number (link.Take ticket reply)) call part wanted p quiet = rw (no_ticket call part ticket quiet) refl
quiet_phase (On number (link.Lose ticket begun)) call part wanted p quiet = rw (no_ticket call part ticket quiet) refl
quiet_phase (GiveUp c) call part wanted p quiet = absurd quiet
quiet_phase (End c q cause) call part wanted p quiet = absurd quiet
quiet_phase e call part wanted p quiet = refl

pub tied_quiet : {s : State} {places : ℕ → ℕ} {orders : ℕ → Order} (e : Event) (new : ℕ → Order) → AreTied s places orders → May e s → IsQuiet e → ((caller : ℕ) → new caller ≡ orders caller) → AreTied (after e s) places new
tied_quiet e new t may quiet same = tied_silent e new t may (quiet_steady e quiet) (λ caller call part p has o. quiet_phase e call part has.state.is_wanted p quiet) same
