-- A call is given up.
use Rattle.std.proofs.Common.{◌≡◌, ◌≢◌, ◌<◌, ◌≤◌, ◌+◌, ◌-◌, ◌^◌, ℕ, true, false, inl, inr, List, length, None, Some, refl, sym, ap, ◌∙◌, subst, arith}
use Rattle.std.specs.List.{slice_get}
use Rattle.std.proofs.lemmas.Bool.{false≢true, cases_eq}
use Rattle.std.proofs.lemmas.Option.{same_Some, slice_get_within}
use Rattle.resp_core.proofs.Cases.{by_test}
use Rattle.session_core.specs.declared.part.PartOrder.{PartOrder}
use Rattle.session_core.specs.declared.part.PartOrder.TheVariants.{Free}
use Rattle.session_core.specs.Order.{Order}
use Rattle.session_core.specs.Part.{PartState}
use Rattle.session_core.specs.State.{State, CallState, GiveUp, begun, numbered, call_at, call_after, link_after, Has, Happens}
use Rattle.session_core.proofs.AfterEvents.{seen, has_begun, length-numbered}
use Rattle.session_core.proofs.PlaceLists.{at_index}
use Rattle.session_machine.specs.declared.caller.CallPlaces.{CallPlaces}
use Rattle.session_machine.specs.declared.callers.Callers.{Callers}
use Rattle.session_machine.specs.Callers.{order_of, owed_of, OnlyOwed}
use Rattle.session_machine.specs.Ties.{Owes, AreTied, OrderGoes, given_up, is_ordered, is_owed, end_of}
use Rattle.session_machine.proofs.Ties.GiveUps.{call_within, tied_given_up, gave_up_free, all_free}
use Rattle.session_machine.proofs.Ties.Owed.{IsHeld, owed_given_up}
use Rattle.session_machine.specs.Calls as calls
use Rattle.session_machine.specs.Calls.{with_call}
use Rattle.session_machine.specs.Kept.{IsKept, IsPlace, CallGoes}
use Rattle.session_machine.proofs.CallChanges.{given_up_calls}
use Rattle.session_machine.proofs.Keeping.{state_of, call_stands, place_is, kept_by}
use Rattle.session_machine.proofs.Finishing.{links_stay}

-- ---- the order of its first part

-- This is the order of the first part of the call, or that of a free part if it has none.
pub record IsFirstOrder (parts : List PartState) (order : PartOrder) : Type 0 where
  pub some : (p : PartState) → slice_get parts 0 ≡ Some p → order ≡ p.order
  pub none : slice_get parts 0 ≡ None → order ≡ Free

pub record HasFirst (s : State) (call : ℕ) (state : CallState) (order : PartOrder) : Type 0 where
  pub p : PartState
  pub has : Has s state.caller call 0 p
  pub state_is : has.state ≡ state
  pub order_is : order ≡ p.order

pub first_has : (s : State) (call : ℕ) (state : CallState) (order : PartOrder) → call_at call s ≡ Some state → IsFirstOrder state.parts order → is_ordered order ≡ true → HasFirst s call state order
first_has s call state order is first o = elim (seen (slice_get state.parts 0)) [
  | inl none ↦ absurd (false≢true (ap is_ordered (sym (first.none none)) ∙ o))
  | inr p ↦ record {
    p = p.0;
    has = record { state = state; call_is = is; caller_is = refl; part_is = p.1 };
    state_is = refl;
    order_is = first.some p.0 p.1;
  }
]

-- all parts are free if the first one is
pub none_ordered : {s : State} {places : ℕ → ℕ} {orders : ℕ → Order} (call : ℕ) (state : CallState) (order : PartOrder) → AreTied s places orders → call_at call s ≡ Some state → IsFirstOrder state.parts order → is_ordered order ≡ false
    → (caller part : ℕ) (p : PartState) → Has s caller call part p → is_ordered p.order ≡ false
none_ordered {s = s} call state order t is first f caller part p has = elim (seen (slice_get state.parts 0)) [
  | inl none ↦
      let same : has.state ≡ state = same_Some has.state state (sym has.call_is ∙ is) in
      let within = slice_get_within state.parts part p (ap (λ (c : CallState). slice_get c.parts part) (sym same) ∙ has.part_is) in
      let some = at_index state.parts 0 (omega (arith, within)) in
      let no : None ≡ Some some.0 = sym none ∙ some.1 in absurd (cc)
  | inr p0 ↦
      let own : Has s state.caller call 0 p0.0 = record { state = state; call_is = is; caller_is = refl; part_is = p0.1 } in
      all_free t own (ap is_ordered (sym (first.some p0.0 p0.1)) ∙ f) caller part p has
]

pub call_fits : {places : List CallPlaces} {callers : Callers} {began : ℕ} (s : State) (k : IsKept s places callers began) (call : ℕ) (state : CallState) (order : PartOrder) (n : ℕ) → began < 2 ^ 64 → call_at call s ≡ Some state → IsFirstOrder state.parts order
    → n ≤ length state.parts → is_ordered order ≡ true → (at : CallPlaces) → slice_get places (call - s.first) ≡ Some at → at.order + n < 2 ^ 64
call_fits s k call state order n small is first le o at there =
    let h = first_has s call state order is first o in
    let st = call_stands k call state is in
    let same : st.at ≡ at = same_Some st.at at (sym st.there ∙ there) in
    let own : k.order_places call ≡ at.order = st.order_is ∙ ap (λ (x : CallPlaces). x.order) same in
    let many : length h.has.state.parts ≡ length state.parts = ap (λ (c : CallState). length c.parts) h.state_is in
    let within = call_within k.tied h.has (ap is_ordered (sym h.order_is) ∙ o) in
    omega (arith, own, many, within, le, k.short state.caller, small)

module _ {places : List CallPlaces} {callers : Callers} {began : ℕ} (s : State) (k : IsKept s places callers began) (call : ℕ) (state : CallState) (order : PartOrder) (place count : ℕ)
    (call_is : call_at call s ≡ Some state) (first : IsFirstOrder state.parts order) (count_is : count ≡ length state.parts) (place_as : IsPlace s.first call 0 places order place) where
  place_here : is_ordered order ≡ true → place ≡ k.order_places call
  place_here o =
      let at = place_is k call 0 place order (call_stands k call state call_is) place_as o in
      omega (arith, at)

  pub give_within : is_ordered order ≡ true → place + count ≤ end_of (order_of state.caller callers)
  give_within o =
      let h = first_has s call state order call_is first o in
      let many : length h.has.state.parts ≡ length state.parts = ap (λ (c : CallState). length c.parts) h.state_is in
      let within = call_within k.tied h.has (ap is_ordered (sym h.order_is) ∙ o) in
      omega (arith, place_here o, many, within, count_is)

  pub give_happens : (now : State) (after_calls : List CallState) → s ≡ now → after_calls ≡ with_call call s.first calls.given_up s.calls → Happens now (GiveUp call) (state_of s.links s.first after_calls)
  give_happens now after_calls e is = subst (λ t. Happens t (GiveUp call) (state_of s.links s.first after_calls)) e (record {
    may = has_begun call s state call_is;
    is = ap (λ ls. state_of ls s.first after_calls) (links_stay (GiveUp call) s.links (λ n x. refl))
        ∙ ap (state_of (numbered (link_after (GiveUp call)) 0 s.links) s.first) (is ∙ given_up_calls call s.first s.calls);
  })

  -- its reply is owed
  pub give_owed : (mid : Callers) → state.is_wanted ≡ true → ((c : ℕ) → owed_of c mid ≡ owed_of c callers) → is_owed call (owed_of state.caller mid) ≡ true
  give_owed mid wanted same = ap (is_owed call) (same state.caller) ∙ k.owed.wanted call state call_is wanted

  pub give_kept : (after_calls : List CallState) (mid new : Callers) → state.is_wanted ≡ true
      → after_calls ≡ with_call call s.first calls.given_up s.calls → CallGoes state.caller place count order callers mid
      → Owes (owed_of state.caller mid) (owed_of state.caller new) call false
      → OnlyOwed state.caller mid new → IsKept (state_of s.links s.first after_calls) places new began
  give_kept after_calls mid new wanted is goes owed only =
      let caller = state.caller in
      let may : call < begun s = has_begun call s state call_is in
      let held : IsHeld s caller call = record { state = state; call_is = call_is; caller_is = refl; wanted = wanted } in
      let gone : Owes (owed_of caller callers) (owed_of caller new) call false = subst (λ (x : List ℕ). Owes x (owed_of caller new) call false) (goes.only.owed caller) owed in
      let others : (other : ℕ) → other ≢ caller → order_of other new ≡ order_of other callers = λ other ne. only.order other ∙ goes.only.order other ne in
      let to : is_ordered order ≡ true → OrderGoes (given_up place count) (order_of caller callers) (order_of caller new) = λ o. subst (λ (x : Order). OrderGoes (given_up place count) (order_of caller callers) x) (sym (only.order caller)) (goes.ordered o) in
      let same : is_ordered order ≡ false → (other : ℕ) → order_of other new ≡ order_of other callers = λ f other. elim (cases_eq other caller) [
        | inl own ↦ subst (λ (n : ℕ). order_of n new ≡ order_of n callers) (sym own) (only.order caller ∙ goes.free f)
        | inr ne ↦ others other ne
      ] in
      kept_by (GiveUp call) (state_of s.links s.first after_calls) new k (give_happens s after_calls refl is) refl (length-numbered (call_after (GiveUp call)) s.first s.calls)
      (by_test (is_ordered order)
      (λ o.
      let h = first_has s call state order call_is first o in
      let many : count ≡ length h.has.state.parts = count_is ∙ ap (λ (c : CallState). length c.parts) (sym h.state_is) in
      tied_given_up k.tied h.has (ap is_ordered (sym h.order_is) ∙ o) (λ c. order_of c new) may
      (subst (λ (n : ℕ). OrderGoes (given_up n (length h.has.state.parts)) (order_of caller callers) (order_of caller new)) (place_here o)
      (subst (λ (n : ℕ). OrderGoes (given_up place n) (order_of caller callers) (order_of caller new)) many (to o)))
      others)
      (λ f. gave_up_free call (λ c. order_of c new) k.tied may (none_ordered call state order k.tied call_is first f) (same f)))
      (owed_given_up (λ c. owed_of c new) k.owed may held
      (record { owed = gone; others = λ other ne. only.owed other ne ∙ goes.only.owed other }))
      (λ other. only.last other ∙ goes.only.last other)
      (λ other. elim (cases_eq other caller) [
        | inl own ↦ by_test (is_ordered order)
            (λ o.
            let end : end_of (order_of caller new) ≡ end_of (order_of caller callers) = (to o).end in
            let moved : end_of (order_of other new) ≡ end_of (order_of caller new) = ap (λ n. end_of (order_of n new)) own in
            omega (arith, end, moved, k.short caller))
            (λ f. let end : end_of (order_of other new) ≡ end_of (order_of other callers) = ap end_of (same f other) in omega (arith, end, k.short other))
        | inr ne ↦ let end : end_of (order_of other new) ≡ end_of (order_of other callers) = ap end_of (others other ne) in omega (arith, end, k.short other)
      ])
