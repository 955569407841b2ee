-- How an order goes on: a part gets a status, done parts at the front are forgotten.
use Rattle.std.proofs.Common.{◌≡◌, ◌≢◌, ◌<◌, ◌≤◌, ◌+◌, ◌-◌, ◌&&◌, inl, inr, ℕ, Bool, true, false, eqb, leb, ltb, List, [], ◌∷◌, Option, None, Some, refl, sym, ap, ◌∙◌, arith}
use Rattle.std.specs.List.{slice_get}
use Rattle.std.specs.Option.{option_map}
use Rattle.std.proofs.lemmas.Option.{same_Some}
use Rattle.std.proofs.lemmas.Bool.{eq-eqb, cases_lt, cases_eq}
use Rattle.std.proofs.lemmas.Bool.Decides.{nat_tests}
use Rattle.resp_core.proofs.Cases.{by_test}
use Rattle.session_core.specs.declared.ordered_part.OrderedPart.{OrderedPart}
use Rattle.session_core.specs.declared.ordered_part.Status.{Status}
use Rattle.session_core.specs.declared.ordered_part.Status.TheVariants.{Waits, Asked, Settled, Unsent}
use Rattle.session_core.specs.Order.{Order, ordered_at, is_done, IsWaiting, IsOnItsWay, with_status, trimmed, trimmed_from}
use Rattle.session_core.proofs.Places.{at_from, at_within, dropped_other, changed_same, changed_other, length-changed}
use Rattle.session_machine.specs.Ties.{OrderGoes, restated, keeps, gets, given_up}

abbrev Change : Type 0
Change = ℕ → Status → Status

-- ---- statuses that change

restated_same : (f g : Status → Status) (o : Option OrderedPart) → ((x : OrderedPart) → o ≡ Some x → f x.status ≡ g x.status) → option_map (restated f) o ≡ option_map (restated g) o
restated_same f g None same = refl
restated_same f g (Some x) same = ap (λ (st : Status). Some (record x { status = st })) (same x refl)

restated_kept : (f : Status → Status) (o : Option OrderedPart) → ((x : OrderedPart) → o ≡ Some x → f x.status ≡ x.status) → o ≡ option_map (restated f) o
restated_kept f None same = refl
restated_kept f (Some x) same = ap (λ (st : Status). Some (record x { status = st })) (sym (same x refl))

restated_twice : (f g : Status → Status) (o : Option OrderedPart) → option_map (restated g) (option_map (restated f) o) ≡ option_map (restated (λ st. g (f st))) o
restated_twice f g None = refl
restated_twice f g (Some x) = refl

pub gets_here : (place at : ℕ) (new old : Status) → at ≡ place → gets place new at old ≡ new
gets_here place at new old e = rw (eq-eqb at place e) refl

pub gets_other : (place at : ℕ) (new old : Status) → at ≢ place → gets place new at old ≡ old
gets_other place at new old ne = let t : eqb at place ≡ false = grind (arith, nat_tests) in rw t refl

pub given_up_in : (place count at : ℕ) → place ≤ at → at < place + count → given_up place count at Waits ≡ Unsent
given_up_in place count at low high =
    let a : leb place at ≡ true = grind (arith, nat_tests) in
    let b : ltb at (place + count) ≡ true = grind (arith, nat_tests) in
    rw (a, b) refl

pub given_up_before : (place count at : ℕ) (old : Status) → at < place → given_up place count at old ≡ old
given_up_before place count at Waits low = let a : leb place at ≡ false = grind (arith, nat_tests) in rw a refl
given_up_before place count at (Asked link) low = refl
given_up_before place count at Settled low = refl
given_up_before place count at Unsent low = refl

and_false : (a : Bool) → (a && false) ≡ false
and_false true = refl
and_false false = refl

pub given_up_past : (place count at : ℕ) (old : Status) → place + count ≤ at → given_up place count at old ≡ old
given_up_past place count at Waits high =
    let b : ltb at (place + count) ≡ false = grind (arith, nat_tests) in
    let none : (leb place at && ltb at (place + count)) ≡ false = ap (λ b. leb place at && b) b ∙ and_false (leb place at) in
    rw none refl
given_up_past place count at (Asked link) high = refl
given_up_past place count at Settled high = refl
given_up_past place count at Unsent high = refl

-- ---- steps

-- the same steps, by another change that gives the same statuses
pub goes_as : {f g : ℕ → Status → Status} {old new : Order} → OrderGoes f old new → ((at : ℕ) (x : OrderedPart) → ordered_at at old ≡ Some x → f at x.status ≡ g at x.status) → OrderGoes g old new
goes_as {f = f} {g = g} {old = old} goes same = record {
  end = goes.end;
  first = goes.first;
  gone = λ at x lt e. ap is_done (sym (same at x e)) ∙ goes.gone at x lt e;
  kept = λ at le. goes.kept at le ∙ restated_same (f at) (g at) (ordered_at at old) (same at);
}

-- nothing changes
pub goes_same : (order : Order) → OrderGoes keeps order order
goes_same order = record {
  end = refl;
  first = omega arith;
  gone = λ at x lt e. let w = at_within at order.first order.parts x e in absurd (omega (arith, w.0, lt));
  kept = λ at le. restated_kept (keeps at) (ordered_at at order) (λ x e. refl);
}

-- one step after another
pub goes_then : {f g : ℕ → Status → Status} {old mid new : Order} → OrderGoes f old mid → OrderGoes g mid new → ((at : ℕ) (st : Status) → is_done st ≡ true → is_done (g at st) ≡ true)
    → OrderGoes (λ at st. g at (f at st)) old new
goes_then {f = f} {g = g} {old = old} {mid = mid} {new = new} one two stays = record {
  end = two.end ∙ one.end;
  first = omega (arith, one.first, two.first);
  gone = λ at x lt e. elim (cases_lt at mid.first) [
    | inl gone ↦ stays at (f at x.status) (one.gone at x gone e)
    | inr kept ↦ two.gone at (restated (f at) x) lt (one.kept at kept ∙ ap (option_map (restated (f at))) e)
  ];
  kept = λ at le. two.kept at le ∙ ap (option_map (restated (g at))) (one.kept at (omega (arith, two.first, le))) ∙ restated_twice (f at) (g at) (ordered_at at old);
}

-- ---- a part gets a status

pub goes_to : (place : ℕ) (st : Status) (order : Order) (p : OrderedPart) → ordered_at place order ≡ Some p → OrderGoes (gets place st) order (with_status place st order)
goes_to place st order p e =
    let w = at_within place order.first order.parts p e in
    let many = length-changed (λ (part : OrderedPart). record part { status = st }) (place - order.first) order.parts in
    record {
      end = ap (λ n. order.first + n) many;
      first = omega arith;
      gone = λ at x lt ex. let v = at_within at order.first order.parts x ex in absurd (omega (arith, v.0, lt));
      kept = λ at le. elim (cases_eq at place) [
        | inl same ↦
            ap (λ n. ordered_at n (with_status place st order)) same
            ∙ changed_same (λ (part : OrderedPart). record part { status = st }) place order.first order.parts p e
            ∙ ap (λ (x : Status). Some (record p { status = x })) (sym (gets_here place at st p.status same))
            ∙ ap (option_map (restated (gets place st at))) (sym e)
            ∙ ap (λ n. option_map (restated (gets place st at)) (ordered_at n order)) (sym same)
        | inr ne ↦
            changed_other (λ (part : OrderedPart). record part { status = st }) place at order.first order.parts w.0 ne
            ∙ restated_kept (gets place st at) (ordered_at at order) (λ x ex. gets_other place at st x.status ne)
      ];
    }

-- ---- done parts at the front are forgotten

goes_front : (first : ℕ) (p : OrderedPart) (ps : List OrderedPart) → is_done p.status ≡ true → OrderGoes keeps (record { first = first; parts = p ∷ ps }) (record { first = first + 1; parts = ps })
goes_front first p ps done = record {
  end = omega arith;
  first = omega arith;
  gone = λ at x lt e.
      let w = at_within at first (p ∷ ps) x e in
      let zero_at : at - first ≡ 0 = omega (arith, w.0, lt) in
      let is : p ≡ x = same_Some p x (sym (ap (slice_get (p ∷ ps)) zero_at) ∙ sym (at_from at first (p ∷ ps) w.0) ∙ e) in
      ap (λ (y : OrderedPart). is_done y.status) (sym is) ∙ done;
  kept = λ at le. let ne : at ≢ first = omega (arith, le) in dropped_other at first (p ∷ ps) ne ∙ restated_kept (keeps at) (ordered_at at (record { first = first; parts = p ∷ ps })) (λ x e. refl);
}

goes_trimmed_from : (first : ℕ) (parts : List OrderedPart) → OrderGoes keeps (record { first = first; parts = parts }) (trimmed_from first parts)
goes_trimmed_from first [] = goes_same (record { first = first; parts = [] })
goes_trimmed_from first (p ∷ ps) =
    by_test (is_done p.status)
    (λ k. rw k (goes_then (goes_front first p ps k) (goes_trimmed_from (first + 1) ps) (λ at st done. done)))
    (λ k. rw k (goes_same (record { first = first; parts = p ∷ ps })))

pub goes_trimmed : (order : Order) → OrderGoes keeps order (trimmed order)
goes_trimmed order = goes_trimmed_from order.first order.parts

-- ---- steps of a caller's order

-- a part is done now, and what is done at the front is forgotten
pub goes_done : (place : ℕ) (st : Status) (order : Order) (p : OrderedPart) → ordered_at place order ≡ Some p → OrderGoes (gets place st) order (trimmed (with_status place st order))
goes_done place st order p e = goes_then (goes_to place st order p e) (goes_trimmed (with_status place st order)) (λ at x done. done)

pub there_now : (place : ℕ) (st : Status) (order : Order) (p : OrderedPart) → ordered_at place order ≡ Some p → ordered_at place (with_status place st order) ≡ Some (record p { status = st })
there_now place st order p e = changed_same (λ (part : OrderedPart). record part { status = st }) place order.first order.parts p e

-- a part that was on its way waits again
pub waits_again : (place : ℕ) (order : Order) → IsOnItsWay place order → IsWaiting place (with_status place Waits order)
waits_again place order way = (record way.0 { status = Waits }, there_now place Waits order way.0 way.2, refl)

-- a part that was on its way waits again, and then is not asked any more
pub goes_refused : (place : ℕ) (order : Order) (p : OrderedPart) → ordered_at place order ≡ Some p → OrderGoes (gets place Unsent) order (trimmed (with_status place Unsent (with_status place Waits order)))
goes_refused place order p e =
    goes_as
    (goes_then (goes_to place Waits order p e) (goes_done place Unsent (with_status place Waits order) (record p { status = Waits }) (there_now place Waits order p e)) (λ at st done. by_test (eqb at place) (λ k. rw k refl) (λ k. rw k done)))
    (λ at x ex. by_test (eqb at place) (λ k. rw k refl) (λ k. rw k refl))
