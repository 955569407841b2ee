-- The last calls of callers of which something is kept, after an event.
use Rattle.std.proofs.Common.{◌≡◌, ◌≢◌, ◌<◌, ◌≤◌, ◌+◌, ◌-◌, inl, inr, ℕ, suc, List, drop, Option, None, Some, refl, sym, ap, ◌∙◌, arith}
use Rattle.std.specs.List.{slice_get}
use Rattle.std.proofs.lemmas.Bool.{cases_eq}
use Rattle.std.proofs.lemmas.Option.{same_Some}
use Rattle.session_core.specs.Part.{PartState}
use Rattle.session_core.specs.State.{State, Event, Trim, Has, May, after}
use Rattle.session_core.proofs.AfterEvents.{not_forgotten, new_calls}
use Rattle.session_core.proofs.PlaceLists.{get_first_dropped}
use Rattle.session_machine.specs.declared.caller.CallPlaces.{CallPlaces}
use Rattle.session_machine.specs.declared.callers.Callers.{Callers}
use Rattle.session_machine.specs.Callers.{order_of, owed_of, last_of, ForgetsAfter}
use Rattle.session_machine.specs.Kept.{AreLast}
use Rattle.session_machine.specs.Ties.{AreTied, AreOwed}
use Rattle.session_machine.proofs.Ties.Tied.{part_came, tied_orders, tied_without}
use Rattle.session_machine.proofs.Ties.Owed.{IsHeld, held_before, held_bound, same_owed, owed_same, owed_without}

-- an event that begins no call and forgets none
pub last_after : {s : State} {places : List CallPlaces} {lasts : ℕ → Option ℕ} (e : Event) (new : ℕ → Option ℕ) → AreLast s places lasts → May e s → new_calls e ≡ 0 → (after e s).first ≡ s.first → ((caller : ℕ) → new caller ≡ lasts caller)
    → AreLast (after e s) places new
last_after {s = s} {places = places} {lasts = lasts} e new l may none first same = record {
  parts = λ caller call part p has.
      let c = part_came may none has in
      let r = l.parts caller call part c.was c.has in
      (r.0, same caller ∙ r.1, r.2);
  wanted = λ call state is w.
      let now : IsHeld (after e s) state.caller call = record { state = state; call_is = is; caller_is = refl; wanted = w } in
      let was = (held_before e may (held_bound s e may none now) now).0 in
      let r = l.wanted call was.state was.call_is was.wanted in
      (r.0, same state.caller ∙ ap lasts (sym was.caller_is) ∙ r.1, r.2);
  there = λ caller last e_is.
      let r = l.there caller last (sym (same caller) ∙ e_is) in
      (r.0, omega (arith, first, r.1), ap (λ n. slice_get places (last - n)) first ∙ r.2, r.3);
}

-- ---- the first place is forgotten, and its caller if it was the last call

module _ {s : State} {places : List CallPlaces} (old new : Callers) (at : CallPlaces) (l : AreLast s places (λ c. last_of c old)) (may : May Trim s) (front : slice_get places 0 ≡ Some at) (goes : ForgetsAfter at.caller s.first old new) where
  -- a caller of a later call is kept
  later : (caller last : ℕ) → last_of caller old ≡ Some last → s.first < last → last_of caller new ≡ Some last
  later caller last e lt = elim goes [
    | inr same ↦ ap (last_of caller) same.1 ∙ e
    | inl gone ↦ elim (cases_eq caller at.caller) [
      | inl own ↦ let is : last ≡ s.first = same_Some last s.first (sym e ∙ ap (λ c. last_of c old) own ∙ gone.0) in absurd (omega (arith, is, lt))
      | inr ne ↦ gone.1.others.last caller ne ∙ e
    ]
  ]

  was : (caller last : ℕ) → last_of caller new ≡ Some last → (last_of caller old ≡ Some last) × (last ≡ s.first → at.caller ≡ caller → ⊥)
  was caller last e = elim goes [
    | inr same ↦
        let is : last_of caller old ≡ Some last = sym (ap (last_of caller) same.1) ∙ e in
        (is, λ first own. same.0 (ap (λ c. last_of c old) own ∙ is ∙ ap Some first))
    | inl gone ↦ elim (cases_eq caller at.caller) [
      | inl own ↦ let no : None ≡ Some last = sym gone.1.last ∙ ap (λ c. last_of c new) (sym own) ∙ e in absurd (cc)
      | inr ne ↦ (sym (gone.1.others.last caller ne) ∙ e, λ first own. ne (sym own))
    ]
  ]

  -- the last call of whom something is there
  of_part : (caller call part : ℕ) (p : PartState) → Has (after Trim s) caller call part p → (last : ℕ) × (last_of caller old ≡ Some last) × (call ≤ last) × (s.first < call)
  of_part caller call part p has =
      let c = part_came {e = Trim} may refl has in
      let r = l.parts caller call part c.was c.has in
      let low = not_forgotten call (after Trim s) has.state has.call_is in
      (r.0, r.1, r.2, omega (arith, low))

  of_wanted : (caller call : ℕ) → IsHeld (after Trim s) caller call → (last : ℕ) × (last_of caller old ≡ Some last) × (call ≤ last) × (s.first < call)
  of_wanted caller call now =
      let w = (held_before Trim may (held_bound s Trim may refl now) now).0 in
      let r = l.wanted call w.state w.call_is w.wanted in
      let low = not_forgotten call (after Trim s) now.state now.call_is in
      (r.0, ap (λ c. last_of c old) (sym w.caller_is) ∙ r.1, r.2, omega (arith, low))

  pub last_trimmed : AreLast (after Trim s) (drop 1 places) (λ c. last_of c new)
  last_trimmed = record {
    parts = λ caller call part p has. let r = of_part caller call part p has in (r.0, later caller r.0 r.1 (omega (arith, r.2, r.3)), r.2);
    wanted = λ call state is w.
        let r = of_wanted state.caller call (record { state = state; call_is = is; caller_is = refl; wanted = w }) in
        (r.0, later state.caller r.0 r.1 (omega (arith, r.2, r.3)), r.2);
    there = λ caller last e.
        let o = was caller last e in
        let r = l.there caller last o.0 in
        let more : last ≢ s.first = λ same.
        let here : last - s.first ≡ 0 = omega (arith, same) in
        let one : at ≡ r.0 = same_Some at r.0 (sym front ∙ ap (slice_get places) (sym here) ∙ r.2) in
        o.1 same (ap (λ (x : CallPlaces). x.caller) one ∙ r.3) in
        let next : suc (last - (s.first + 1)) ≡ last - s.first = omega (arith, r.1, more) in
        (r.0, omega (arith, r.1, more), get_first_dropped places (last - (s.first + 1)) ∙ ap (slice_get places) next ∙ r.2, r.3);
  }

  pub tied_still : {order_places : ℕ → ℕ} → AreTied (after Trim s) order_places (λ c. order_of c old) → AreTied (after Trim s) order_places (λ c. order_of c new)
  tied_still t = elim goes [
    | inr same ↦ tied_orders (λ c. order_of c new) t (λ c. ap (order_of c) same.1)
    | inl gone ↦ tied_without at.caller (λ c. order_of c new) t
        (λ call part p has.
        let r = of_part at.caller call part p has in
        let is : r.0 ≡ s.first = same_Some r.0 s.first (sym r.1 ∙ gone.0) in
        omega (arith, is, r.2, r.3))
        gone.1.order gone.1.others.order
  ]

  pub owed_still : AreOwed (after Trim s) (λ c. owed_of c old) → AreOwed (after Trim s) (λ c. owed_of c new)
  owed_still o = elim goes [
    | inr same ↦ owed_same (λ c. owed_of c new) o (same_owed (λ c. owed_of c old) (λ c. owed_of c new) (λ c. ap (owed_of c) same.1))
    | inl gone ↦ owed_without at.caller (λ c. owed_of c new) o
        (λ call held.
        let r = of_wanted at.caller call held in
        let is : r.0 ≡ s.first = same_Some r.0 s.first (sym r.1 ∙ gone.0) in
        omega (arith, is, r.2, r.3))
        gone.1.owed gone.1.others.owed
  ]
