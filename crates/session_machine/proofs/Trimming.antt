-- Calls are forgotten.
use Rattle.std.proofs.Common.{◌≡◌, ◌≤◌, ◌+◌, ◌-◌, inl, inr, ℕ, suc, List, [], ◌∷◌, length, length-drop, drop, Some, refl, sym, ap, ◌∙◌, subst, arith}
use Rattle.std.specs.List.{slice_get}
use Rattle.std.proofs.lemmas.Bool.{cases_eq}
use Rattle.session_core.specs.Part.{PartState}
use Rattle.session_core.specs.State.{State, CallState, Trim, left_call, Has, Happens, after}
use Rattle.session_core.proofs.PlaceLists.{get_first_dropped}
use Rattle.session_machine.specs.declared.caller.CallPlaces.{CallPlaces}
use Rattle.session_machine.specs.declared.callers.Callers.{Callers}
use Rattle.session_machine.specs.Callers.{order_of, owed_of, last_of, ForgetsAfter}
use Rattle.session_machine.specs.Ties.{AreTied, AreOwed, end_of}
use Rattle.session_machine.proofs.Ties.Leaves.{tied_trimmed}
use Rattle.session_machine.proofs.Ties.Owed.{same_owed, owed_kept}
use Rattle.session_machine.proofs.Ties.Reached.{reached_after}
use Rattle.session_machine.specs.Kept.{IsKept, AreLast}
use Rattle.session_machine.proofs.Lasts.{last_trimmed, tied_still, owed_still}
use Rattle.session_machine.proofs.Ties.Tied.{part_came}
use Rattle.session_machine.proofs.Keeping.{state_of}

front_is : (calls : List CallState) (front : CallState) → slice_get calls 0 ≡ Some front → front ≡ left_call → (more : List CallState) × (calls ≡ left_call ∷ more)
front_is [] front e left = absurd (cc)
front_is (c ∷ calls) front e left = let same : c ≡ front = cc in (calls, ap (λ x. x ∷ calls) (same ∙ left))

pub trim_happens : (s now : State) (front : CallState) (first : ℕ) (calls : List CallState) → s ≡ now → slice_get s.calls 0 ≡ Some front → front ≡ left_call → first ≡ s.first + 1 → calls ≡ drop 1 s.calls → Happens now Trim (state_of s.links first calls)
trim_happens s now front first calls e is left next rest = subst (λ t. Happens t Trim (state_of s.links first calls)) e (record {
  may = front_is s.calls front is left;
  is = ap (λ n. state_of s.links n calls) next ∙ ap (state_of s.links (s.first + 1)) rest;
})

pub trim_kept : {places : List CallPlaces} {callers : Callers} {began : ℕ} (s : State) (front : CallState) (first : ℕ) (calls : List CallState) (less : List CallPlaces) (at : CallPlaces) (new : Callers) → IsKept s places callers began
    → slice_get s.calls 0 ≡ Some front → front ≡ left_call → first ≡ s.first + 1 → calls ≡ drop 1 s.calls → less ≡ drop 1 places → slice_get places 0 ≡ Some at → ForgetsAfter at.caller s.first callers new
    → IsKept (state_of s.links first calls) less new began
trim_kept {places = places} {callers = callers} {began = began} s front first calls less at new k is left next rest fewer place goes =
    let h = trim_happens s s front first calls refl is left next rest in
    let may = front_is s.calls front is left in
    let some : length s.calls ≡ suc (length may.0) = ap length may.1 in
    let many : length calls ≡ length s.calls - 1 = ap length rest ∙ (let n : length (drop 1 s.calls) ≡ length s.calls - 1 = omega (arith, length-drop 1 s.calls) in n) in
    let both : length less ≡ length places - 1 = ap length fewer ∙ (let n : length (drop 1 places) ≡ length places - 1 = omega (arith, length-drop 1 places) in n) in
    record {
      order_places = k.order_places;
      count = omega (arith, many, both, k.count);
      at = λ i p e.
          let old : slice_get places (suc i) ≡ Some p = sym (get_first_dropped places i) ∙ ap (λ (ps : List CallPlaces). slice_get ps i) (sym fewer) ∙ e in
          let n : first + i ≡ s.first + suc i = omega (arith, next) in
          ap k.order_places n ∙ k.at (suc i) p old;
      reached = reached_after s (state_of s.links first calls) Trim k.reached h;
      tied = subst (λ t. AreTied t k.order_places (λ c. order_of c new)) (sym h.is)
          (tied_still callers new at k.last h.may place goes (tied_trimmed (λ c. order_of c callers) k.tied h.may (λ c. refl)));
      owed = subst (λ t. AreOwed t (λ c. owed_of c new)) (sym h.is)
          (owed_still callers new at k.last h.may place goes
          (owed_kept Trim (λ c. owed_of c callers) k.owed h.may refl (λ c n held. refl) (same_owed (λ c. owed_of c callers) (λ c. owed_of c callers) (λ c. refl))));
      last = subst (λ t. AreLast t less (λ c. last_of c new)) (sym h.is) (subst (λ ps. AreLast (after Trim s) ps (λ c. last_of c new)) (sym fewer) (last_trimmed callers new at k.last h.may place goes));
      some = λ caller call part p has.
          let c = part_came {e = Trim} h.may refl (subst (λ t. Has t caller call part p) h.is has) in
          let same = ap (λ (x : PartState). length x.request) c.is in
          omega (arith, same, k.some caller call part c.was c.has);
      short = λ caller. omega (arith, shorter caller goes, k.short caller);
      fits = omega (arith, next, many, some, k.fits);
    }
  where
    shorter : (caller : ℕ) → ForgetsAfter at.caller s.first callers new → end_of (order_of caller new) ≤ end_of (order_of caller callers)
    shorter caller goes = elim goes [
      | inr same ↦ let e = ap (λ (cs : Callers). end_of (order_of caller cs)) same.1 in omega (arith, e)
      | inl gone ↦ elim (cases_eq caller at.caller) [
        | inl own ↦ let e : end_of (order_of caller new) ≡ 0 = ap (λ c. end_of (order_of c new)) own ∙ ap end_of gone.1.order in omega (arith, e)
        | inr ne ↦ let e = ap end_of (gone.1.others.order caller ne) in omega (arith, e)
      ]
    ]
