-- A call begins.
use Rattle.std.proofs.Common.{◌≡◌, ◌≢◌, ◌<◌, ◌≤◌, ◌+◌, ◌-◌, ◌^◌, ◌++◌, ◌⊎◌, inl, inr, ℕ, suc, true, false, if◌then◌else◌, eqb, List, [], ◌∷◌, length, length-append, Some, refl, sym, ap, ◌∙◌, subst, arith}
use Rattle.std.specs.List.{slice_get, list_all}
use Rattle.std.proofs.lemmas.Bool.{eq-eqb, cases_lt, cases_eq}
use Rattle.std.proofs.lemmas.Option.{same_Some, slice_get_within}
use Rattle.session_core.specs.declared.ordered_part.OrderedPart.{OrderedPart}
use Rattle.session_core.specs.declared.part.PartOrder.{PartOrder}
use Rattle.session_core.specs.Order.{Order, MayJoin, joined, waiting_parts}
use Rattle.session_core.specs.LinkEvents as link
use Rattle.session_core.specs.Part.{PartState, is_waiting}
use Rattle.session_core.specs.State.{State, CallState, Begin, begun, AreApart, Has, May, Happens, after}
use Rattle.session_core.proofs.AfterEvents.{has_begun, call_new}
use Rattle.session_core.proofs.OrderJoins.{length-waiting}
use Rattle.session_core.proofs.PlaceLists.{get_pushed, get_pushed_last, get_before}
use Rattle.session_machine.specs.declared.caller.CallPlaces.{CallPlaces}
use Rattle.session_machine.specs.declared.callers.Callers.{Callers}
use Rattle.session_machine.specs.Callers.{order_of, owed_of, last_of, OthersKept, CallsKept}
use Rattle.session_machine.specs.Ties.{Owes, AreTied, AreOwed, AreOrdered, AreFree, is_ordered, end_of}
use Rattle.session_machine.proofs.Ties.Tied.{tied_orders}
use Rattle.session_machine.proofs.Ties.Begins.{orders_of, began_cases, may_join, tied_began, tied_began_free}
use Rattle.session_machine.proofs.Ties.Owed.{IsHeld, held_before, owed_began, owed_same}
use Rattle.session_machine.proofs.Ties.Reached.{reached_after}
use Rattle.session_machine.specs.Begun.{ordered_of, HaveRequests}
use Rattle.session_machine.specs.Kept.{IsKept, AreLast}
use Rattle.session_machine.proofs.Numbers.{other_number}
use Rattle.session_machine.proofs.Keeping.{state_of}
use Rattle.session_machine.proofs.Finishing.{same_orders}

-- ---- which parts join

ordered_all : (parts : List PartState) → AreOrdered parts → ordered_of parts ≡ orders_of parts
ordered_all [] o = refl
ordered_all (p ∷ parts) o =
    let first : is_ordered p.order ≡ true = o 0 p refl in
    rw first (ap (λ xs. p.order ∷ xs) (ordered_all parts (λ i x e. o (suc i) x e)))

ordered_none : (parts : List PartState) → AreFree parts → ordered_of parts ≡ []
ordered_none [] f = refl
ordered_none (p ∷ parts) f =
    let first : is_ordered p.order ≡ false = f 0 p refl in
    rw first (ordered_none parts (λ i x e. f (suc i) x e))

length-orders : (parts : List PartState) → length (orders_of parts) ≡ length parts
length-orders [] = refl
length-orders (p ∷ parts) = ap suc (length-orders parts)

abbrev pub AreAlike : List PartState → Type 0
AreAlike parts = AreOrdered parts ⊎ AreFree parts

few : (parts : List PartState) → AreAlike parts → length (ordered_of parts) ≤ length parts
few parts alike = elim alike [
  | inl o ↦ let n : length (ordered_of parts) ≡ length parts = ap length (ordered_all parts o) ∙ length-orders parts in omega (arith, n)
  | inr f ↦ let n : length (ordered_of parts) ≡ 0 = ap length (ordered_none parts f) in omega (arith, n)
]

append_none : {X : Type 0} (xs : List X) → xs ++ [] ≡ xs
append_none [] = refl
append_none (x ∷ xs) = ap (λ ys. x ∷ ys) (append_none xs)

abbrev order_with : ℕ → List OrderedPart → Order
order_with first parts = record { first = first; parts = parts }

joined_none : (call : ℕ) (order : Order) → joined call [] order ≡ order
joined_none call order = ap (order_with order.first) (append_none order.parts)

end_joined : (call : ℕ) (orders : List PartOrder) (order : Order) → end_of (joined call orders order) ≡ end_of order + length orders
end_joined call orders order = omega (arith, length-append order.parts (waiting_parts call 0 orders), length-waiting call 0 orders)

-- the parts may join
pub joins : {places : List CallPlaces} {callers : Callers} {began : ℕ} (s : State) (k : IsKept s places callers began) (call caller : ℕ) (parts : List PartState) → call ≡ begun s → list_all (λ p. is_waiting p.phase) parts ≡ true → AreApart parts → AreAlike parts
    → MayJoin call (ordered_of parts) (order_of caller callers)
joins {callers = callers} s k call caller parts is wait apart alike = elim alike [
  | inl o ↦ subst (λ (os : List PartOrder). MayJoin call os (order_of caller callers)) (sym (ordered_all parts o)) (may_join call caller parts k.tied (is, wait, apart) o)
  | inr f ↦ subst (λ (os : List PartOrder). MayJoin call os (order_of caller callers)) (sym (ordered_none parts f)) (record {
    later = λ at x e. let c = k.tied.comes caller at x e in omega (arith, has_begun x.seat.call s c.1.state c.1.call_is, is);
    apart = λ i j a b lt ea eb. absurd (cc);
    ordered = λ i a e. absurd (cc);
  })
]

-- ---- memory ran out amid it

pub begin_failed : {places : List CallPlaces} {callers : Callers} {began : ℕ} (s : State) (new : Callers) → IsKept s places callers began → CallsKept callers new → IsKept s places new began
begin_failed {callers = callers} s new k kept = record {
  order_places = k.order_places;
  count = k.count;
  at = k.at;
  reached = k.reached;
  tied = tied_orders (λ caller. order_of caller new) k.tied kept.order;
  owed = owed_same (λ caller. owed_of caller new) k.owed kept.owed;
  last = record {
    parts = λ caller call part p has. let r = k.last.parts caller call part p has in (r.0, kept.last caller ∙ r.1, r.2);
    wanted = λ call state is w. let r = k.last.wanted call state is w in (r.0, kept.last state.caller ∙ r.1, r.2);
    there = λ caller last is. k.last.there caller last (sym (kept.last caller) ∙ is);
  };
  some = k.some;
  short = λ caller. let end : end_of (order_of caller new) ≡ end_of (order_of caller callers) = ap end_of (kept.order caller) in omega (arith, end, k.short caller);
  fits = k.fits;
}

-- ---- it begins

abbrev pub with_place : ℕ → ℕ → (ℕ → ℕ) → ℕ → ℕ
with_place call place places n = if eqb call n then place else places n

place_here : (call place : ℕ) (places : ℕ → ℕ) → with_place call place places call ≡ place
place_here call place places = rw (eq-eqb call call refl) refl

place_stays : (call place : ℕ) (places : ℕ → ℕ) (n : ℕ) → n ≢ call → with_place call place places n ≡ places n
place_stays call place places n ne = let t : eqb call n ≡ false = other_number call n ne in rw t refl

abbrev pub begun_call : ℕ → List PartState → CallState
begun_call caller parts = record { caller = caller; parts = parts; is_wanted = true }

pub begin_happens : (s now : State) (call caller : ℕ) (parts : List PartState) (calls : List CallState) → s ≡ now → call ≡ begun s → list_all (λ p. is_waiting p.phase) parts ≡ true → AreApart parts → calls ≡ s.calls ++ begun_call caller parts ∷ []
    → Happens now (Begin call caller parts) (state_of s.links s.first calls)
begin_happens s now call caller parts calls e is wait apart calls_are = subst (λ t. Happens t (Begin call caller parts) (state_of s.links s.first calls)) e (record {
  may = (is, wait, apart);
  is = ap (state_of s.links s.first) calls_are;
})

module _ {places : List CallPlaces} {callers : Callers} {began : ℕ} (s : State) (k : IsKept s places callers began) (call caller : ℕ) (parts : List PartState) (at : CallPlaces) (new : Callers) (calls : List CallState)
    (is : call ≡ begun s) (wait : list_all (λ p. is_waiting p.phase) parts ≡ true) (apart : AreApart parts) (alike : AreAlike parts) (requests : HaveRequests parts)
    (caller_at : at.caller ≡ caller) (order_at : at.order ≡ end_of (order_of caller callers))
    (joins_as : order_of caller new ≡ joined call (ordered_of parts) (order_of caller callers)) (owes_as : Owes (owed_of caller callers) (owed_of caller new) call true) (last_is : last_of caller new ≡ Some call) (kept : OthersKept caller callers new)
    (calls_are : calls ≡ s.calls ++ begun_call caller parts ∷ []) where
  may : May (Begin call caller parts) s
  may = (is, wait, apart)

  tied : AreTied (after (Begin call caller parts) s) (with_place call at.order k.order_places) (λ c. order_of c new)
  tied = elim alike [
    | inl o ↦ tied_began call caller parts k.tied may o (λ c. order_of c new) (with_place call at.order k.order_places)
        (joins_as ∙ ap (λ os. joined call os (order_of caller callers)) (ordered_all parts o)) kept.order
        (place_here call at.order k.order_places ∙ order_at) (place_stays call at.order k.order_places)
    | inr f ↦ tied_began_free call caller parts (λ c. order_of c new) (with_place call at.order k.order_places) k.tied may f
        (same_orders caller callers new (joins_as ∙ ap (λ os. joined call os (order_of caller callers)) (ordered_none parts f) ∙ joined_none call (order_of caller callers)) kept)
        (place_stays call at.order k.order_places)
  ]

  place_at : (i : ℕ) (p : CallPlaces) → slice_get (places ++ at ∷ []) i ≡ Some p → with_place call at.order k.order_places (s.first + i) ≡ p.order
  place_at i p e = elim (cases_eq i (length places)) [
    | inl last ↦
        let n : s.first + i ≡ call = omega (arith, last, k.count, is) in
        let own : at ≡ p = same_Some at p (sym (get_pushed_last places at) ∙ ap (slice_get (places ++ at ∷ [])) (sym last) ∙ e) in
        ap (with_place call at.order k.order_places) n ∙ place_here call at.order k.order_places ∙ ap (λ (x : CallPlaces). x.order) own
    | inr before ↦
        let old : slice_get places i ≡ Some p = sym (get_pushed places at i before) ∙ e in
        let ne : (s.first + i) ≢ call = λ same. omega (arith, slice_get_within places i p old, k.count, is, same) in
        place_stays call at.order k.order_places (s.first + i) ne ∙ k.at i p old
  ]

  -- an earlier call of a caller is not past its last one
  up : (c n : ℕ) → n < call → (last : ℕ) × (last_of c callers ≡ Some last) × (n ≤ last) → (last : ℕ) × (last_of c new ≡ Some last) × (n ≤ last)
  up c n lt r = elim (cases_eq c caller) [
    | inl own ↦ (call, ap (λ m. last_of m new) own ∙ last_is, omega (arith, lt))
    | inr ne ↦ (r.0, kept.last c ne ∙ r.1, r.2)
  ]

  last : AreLast (after (Begin call caller parts) s) (places ++ at ∷ []) (λ c. last_of c new)
  last = record {
    parts = λ c n q p has. elim (began_cases call caller parts may has) [
      | inl old ↦ up c n old.1 (k.last.parts c n q p old.0)
      | inr fresh ↦ (call, ap (λ m. last_of m new) fresh.0 ∙ last_is, omega (arith, fresh.1))
    ];
    wanted = λ n state there w. elim (cases_lt n (begun s)) [
      | inl old ↦
          let now : IsHeld (after (Begin call caller parts) s) state.caller n = record { state = state; call_is = there; caller_is = refl; wanted = w } in
          let was = (held_before (Begin call caller parts) may old now).0 in
          let r = k.last.wanted n was.state was.call_is was.wanted in
          up state.caller n (omega (arith, old, is)) (r.0, ap (λ m. last_of m callers) (sym was.caller_is) ∙ r.1, r.2)
      | inr fresh ↦
          let b : (c : ℕ) × (ps : List PartState) × (Begin call caller parts ≡ Begin n c ps) × (state ≡ begun_call c ps) = call_new link.May (Begin call caller parts) n s state may fresh there in
          let number : call ≡ n = cc (b.2) in
          let own : caller ≡ state.caller = cc (b.2, b.3) in
          (call, ap (λ m. last_of m new) (sym own) ∙ last_is, omega (arith, number))
    ];
    there = λ c last e. elim (cases_eq c caller) [
      | inl own ↦
          let same : last ≡ call = same_Some last call (sym e ∙ ap (λ m. last_of m new) own ∙ last_is) in
          let end : last - s.first ≡ length places = omega (arith, same, is, k.count) in
          (at, omega (arith, same, is), ap (slice_get (places ++ at ∷ [])) end ∙ get_pushed_last places at, caller_at ∙ sym own)
      | inr ne ↦
          let r = k.last.there c last (sym (kept.last c ne) ∙ e) in
          (r.0, r.1, get_before places (at ∷ []) (last - s.first) (slice_get_within places (last - s.first) r.0 r.2) ∙ r.2, r.3)
    ];
  }

  some : (c n q : ℕ) (p : PartState) → Has (after (Begin call caller parts) s) c n q p → 0 < length p.request
  some c n q p has = elim (began_cases call caller parts may has) [
    | inl old ↦ k.some c n q p old.0
    | inr fresh ↦ requests q p fresh.2
  ]

  short : (c : ℕ) → end_of (order_of c new) ≤ began + length parts
  short c = elim (cases_eq c caller) [
    | inl own ↦
        let end : end_of (order_of caller new) ≡ end_of (order_of caller callers) + length (ordered_of parts) = ap end_of joins_as ∙ end_joined call (ordered_of parts) (order_of caller callers) in
        let here : end_of (order_of c new) ≡ end_of (order_of caller new) = ap (λ n. end_of (order_of n new)) own in
        omega (arith, end, here, k.short caller, few parts alike)
    | inr other ↦ let end : end_of (order_of c new) ≡ end_of (order_of c callers) = ap end_of (kept.order c other) in omega (arith, end, k.short c)
  ]

  pub begin_kept : (more : List CallPlaces) (total : ℕ) → more ≡ places ++ at ∷ [] → total ≡ began + length parts → call + 1 < 2 ^ 64 → IsKept (state_of s.links s.first calls) more new total
  begin_kept more total more_is total_is room =
      let next : State = state_of s.links s.first calls in
      let happens = begin_happens s s call caller parts calls refl is wait apart calls_are in
      let many : length calls ≡ length s.calls + 1 = ap length calls_are ∙ (let n : length (s.calls ++ begun_call caller parts ∷ []) ≡ length s.calls + 1 = omega (arith, length-append s.calls (begun_call caller parts ∷ [])) in n) in
      let both : length more ≡ length places + 1 = ap length more_is ∙ (let n : length (places ++ at ∷ []) ≡ length places + 1 = omega (arith, length-append places (at ∷ [])) in n) in
      record {
        order_places = with_place call at.order k.order_places;
        count = omega (arith, many, both, k.count);
        at = λ i p e. place_at i p (ap (λ (ps : List CallPlaces). slice_get ps i) (sym more_is) ∙ e);
        reached = reached_after s next (Begin call caller parts) k.reached happens;
        tied = subst (λ t. AreTied t (with_place call at.order k.order_places) (λ c. order_of c new)) (sym happens.is) tied;
        owed = subst (λ t. AreOwed t (λ c. owed_of c new)) (sym happens.is)
            (owed_began call caller parts (λ c. owed_of c new) k.owed may (record { owed = owes_as; others = kept.owed }));
        last = subst (λ t. AreLast t more (λ c. last_of c new)) (sym happens.is) (subst (λ ps. AreLast (after (Begin call caller parts) s) ps (λ c. last_of c new)) (sym more_is) last);
        some = λ c n q p has. some c n q p (subst (λ t. Has t c n q p) happens.is has);
        short = λ c. omega (arith, short c, total_is);
        fits = omega (arith, many, is, room);
      }
