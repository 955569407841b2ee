-- Calls are forgotten: their parts were forgotten in the orders before.
use Rattle.std.proofs.Common.{◌≡◌, ◌<◌, ◌+◌, ◌-◌, inl, inr, ℕ, suc, true, false, eqb, length, None, Some, refl, sym, ap, ◌∙◌, subst, arith}
use Rattle.std.specs.List.{slice_get}
use Rattle.std.proofs.lemmas.Bool.{false≢true, eqb-true, cases_eq}
use Rattle.resp_core.proofs.Cases.{by_test}
use Rattle.session_core.specs.Order.{Order}
use Rattle.session_core.specs.Part.{PartState}
use Rattle.session_core.specs.State.{CallState, State, Leave, Trim, call_at, call_after, left_call, Has, May, after}
use Rattle.session_core.proofs.AfterEvents.{changed_call, call_is, not_forgotten, same_call}
use Rattle.session_core.proofs.PlaceLists.{get_first_dropped}
use Rattle.session_machine.specs.Ties.{AreTied, OrderGoes, keeps, is_ordered}
use Rattle.session_machine.proofs.Ties.Goes.{goes_same}
use Rattle.session_machine.proofs.Ties.Tied.{AreLeft, tied_step}
use Rattle.session_machine.proofs.Ties.GiveUps.{part_within}

-- Each part of this call that is ordered was forgotten in the order of its caller.
abbrev pub IsPast : (s : State) (places : ℕ → ℕ) (orders : ℕ → Order) (call : ℕ) → Type 0
IsPast s places orders call = (caller part : ℕ) (p : PartState) → Has s caller call part p → is_ordered p.order ≡ true → places call + part < (orders caller).first

-- It is so if the last one was.
pub past_by_last : {s : State} (places : ℕ → ℕ) (orders : ℕ → Order) (call caller : ℕ) (state : CallState) → call_at call s ≡ Some state → state.caller ≡ caller
    → places call + (length state.parts - 1) < (orders caller).first → IsPast s places orders call
past_by_last places orders call caller state is own gone other part p has o =
    let one : has.state ≡ state = same_call has.state state (sym has.call_is ∙ is) in
    let same : other ≡ caller = sym has.caller_is ∙ ap (λ (c : CallState). c.caller) one ∙ own in
    let some = part_within has in
    let many : length has.state.parts ≡ length state.parts = ap (λ (c : CallState). length c.parts) one in
    let first : (orders other).first ≡ (orders caller).first = ap (λ c. (orders c).first) same in
    omega (arith, gone, some, many, first)

-- and of a call of which no part is ordered
pub past_free : (s : State) (places : ℕ → ℕ) (orders : ℕ → Order) (call : ℕ) → ((caller part : ℕ) (p : PartState) → Has s caller call part p → is_ordered p.order ≡ false) → IsPast s places orders call
past_free s places orders call free caller part p has o = absurd (false≢true (sym (free caller part p has) ∙ o))

same_orders : {orders new : ℕ → Order} → ((caller : ℕ) → new caller ≡ orders caller) → (caller : ℕ) → OrderGoes keeps (orders caller) (new caller)
same_orders {orders = orders} same caller = subst (λ (o : Order). OrderGoes keeps (orders caller) o) (sym (same caller)) (goes_same (orders caller))

left_parts : (s : State) (places : ℕ → ℕ) (orders : ℕ → Order) (call : ℕ) → IsPast s places orders call → AreLeft (Leave call) s places orders
left_parts s places orders call past caller n q p has o low = by_test (eqb call n)
    (λ k.
    let gone = past caller q p (subst (λ m. Has s caller m q p) (sym (eqb-true call n k)) has) o in
    absurd (omega (arith, ap places (eqb-true call n k), gone, low)))
    (λ k. record {
      state = has.state;
      call_is = changed_call (call_after (Leave call)) s (after (Leave call) s).links n has.state has.call_is ∙ rw k refl;
      caller_is = has.caller_is;
      part_is = has.part_is;
    })

-- a call's place is left
pub tied_left : {s : State} {places : ℕ → ℕ} {orders : ℕ → Order} (call : ℕ) (new : ℕ → Order) → AreTied s places orders → May (Leave call) s → IsPast s places orders call → ((caller : ℕ) → new caller ≡ orders caller)
    → AreTied (after (Leave call) s) places new
tied_left {s = s} {places = places} {orders = orders} call new t may past same = tied_step (Leave call) new (λ c. keeps) t may refl (left_parts s places orders call past) (λ caller n q p has o low. refl) (same_orders same)

trimmed_parts : (s : State) (places : ℕ → ℕ) (orders : ℕ → Order) → May Trim s → AreLeft Trim s places orders
trimmed_parts s places orders may caller n q p has o low =
    let h = not_forgotten n s has.state has.call_is in
    elim (cases_eq n s.first) [
      | inl first ↦
          let zero_at : n - s.first ≡ 0 = omega (arith, first) in
          let there : left_call ≡ has.state = same_call left_call has.state (sym (ap (λ xs. slice_get xs 0) may.1) ∙ ap (slice_get s.calls) (sym zero_at) ∙ sym (call_is n s h) ∙ has.call_is) in
          let no : None ≡ Some p = ap (λ (c : CallState). slice_get c.parts q) there ∙ has.part_is in
          absurd (cc)
      | inr ne ↦
          let next : suc (n - (s.first + 1)) ≡ n - s.first = omega (arith, h, ne) in
          record {
            state = has.state;
            call_is = call_is n (after Trim s) (omega (arith, h, ne)) ∙ get_first_dropped s.calls (n - (s.first + 1)) ∙ ap (slice_get s.calls) next ∙ sym (call_is n s h) ∙ has.call_is;
            caller_is = has.caller_is;
            part_is = has.part_is;
          }
    ]

-- the first place is forgotten
pub tied_trimmed : {s : State} {places : ℕ → ℕ} {orders : ℕ → Order} (new : ℕ → Order) → AreTied s places orders → May Trim s → ((caller : ℕ) → new caller ≡ orders caller) → AreTied (after Trim s) places new
tied_trimmed {s = s} {places = places} {orders = orders} new t may same = tied_step Trim new (λ c. keeps) t may refl (trimmed_parts s places orders may) (λ caller n q p has o low. refl) (same_orders same)
