-- A call is given up: its parts that wait are not asked any more.
use Rattle.std.proofs.Common.{◌≡◌, ◌≢◌, ◌<◌, ◌≤◌, ◌+◌, ◌-◌, ◌⊎◌, inl, inr, ℕ, true, false, eqb, length, refl, sym, ap, ◌∙◌, subst, arith}
use Rattle.std.proofs.lemmas.Option.{slice_get_within}
use Rattle.std.proofs.lemmas.Bool.{false≢true, eq-eqb, eqb-true, cases_lt, cases_order}
use Rattle.resp_core.proofs.Cases.{by_test}
use Rattle.session_core.specs.declared.part.Cause.TheVariants.{GivenUp}
use Rattle.session_core.specs.Order.{Order}
use Rattle.session_core.specs.Part.{PartState, Phase, Waits, Asked, Answered, Lost, Refused, Unsent, phase_ended}
use Rattle.session_core.specs.State.{CallState, State, GiveUp, call_at, phase_after, Has, May, after}
use Rattle.session_core.proofs.AfterEvents.{same_call}
use Rattle.session_core.proofs.PlaceLists.{at_index}
use Rattle.session_core.proofs.Places.{at_within}
use Rattle.session_machine.specs.Ties.{AreTied, OrderGoes, given_up, status_of, is_ordered, ordered_part, end_of}
use Rattle.session_machine.proofs.Ties.Parts.{one_caller}
use Rattle.session_machine.proofs.Ties.Goes.{given_up_in, given_up_before, given_up_past}
use Rattle.session_machine.proofs.Ties.Tied.{tied_caller, tied_silent}

-- ---- the parts of a call

-- a part of the same call
pub part_of : {s : State} {caller call part : ℕ} {p : PartState} (has : Has s caller call part p) (n : ℕ) → n < length has.state.parts → (q : PartState) × Has s caller call n q
part_of has n within =
    let q = at_index has.state.parts n within in
    (q.0, record { state = has.state; call_is = has.call_is; caller_is = has.caller_is; part_is = q.1 })

pub part_within : {s : State} {caller call part : ℕ} {p : PartState} (has : Has s caller call part p) → part < length has.state.parts
part_within {part = part} {p = p} has = slice_get_within has.state.parts part p has.part_is

-- so many places has a call in the order of its caller
pub call_within : {s : State} {places : ℕ → ℕ} {orders : ℕ → Order} {caller call part : ℕ} {p : PartState} → AreTied s places orders → (has : Has s caller call part p) → is_ordered p.order ≡ true
    → places call + length has.state.parts ≤ end_of (orders caller)
call_within {places = places} {orders = orders} {caller = caller} {call = call} {part = part} {p = p} t has o =
    let some = part_within has in
    let last = part_of has (length has.state.parts - 1) (omega (arith, some)) in
    let ordered : is_ordered last.0.order ≡ true = sym (t.alike caller call part (length has.state.parts - 1) p last.0 has last.1) ∙ o in
    elim (cases_lt (places call + (length has.state.parts - 1)) (orders caller).first) [
      | inl gone ↦ omega (arith, gone, some)
      | inr here ↦
          let w = at_within (places call + (length has.state.parts - 1)) (orders caller).first (orders caller).parts (ordered_part call (length has.state.parts - 1) last.0)
          (t.stands caller call (length has.state.parts - 1) last.0 last.1 ordered here) in
          omega (arith, w.1, some)
    ]

-- ---- a call that has an order

given_status : (place count at : ℕ) (f : Phase) → place ≤ at → at < place + count → status_of (phase_ended GivenUp f) ≡ given_up place count at (status_of f)
given_status place count at (Waits left) low high = sym (given_up_in place count at low high)
given_status place count at (Asked link left) low high = refl
given_status place count at (Answered reply) low high = refl
given_status place count at Lost low high = refl
given_status place count at (Refused error) low high = refl
given_status place count at (Unsent cause) low high = refl

module _ {s : State} {places : ℕ → ℕ} {orders : ℕ → Order} {caller call part : ℕ} {p : PartState} (t : AreTied s places orders) (has : Has s caller call part p) (ordered : is_ordered p.order ≡ true) where
  -- the places of other calls are before those of the call, or after them
  elsewhere : (n q : ℕ) (x : PartState) → Has s caller n q x → is_ordered x.order ≡ true → n ≢ call → (places n + q < places call) ⊎ (places call + length has.state.parts ≤ places n + q)
  elsewhere n q x own o ne =
      let some = part_within has in
      elim (cases_order n call) [
        | inl same ↦ absurd (ne same)
        | inr apart ↦ elim apart [
          | inl lt ↦
              let front = part_of has 0 (omega (arith, some)) in
              let front_o : is_ordered front.0.order ≡ true = sym (t.alike caller call part 0 p front.0 has front.1) ∙ ordered in
              let less = t.rising caller n call q 0 x front.0 lt own front.1 o front_o in
              inl (omega (arith, less))
          | inr gt ↦
              let last = part_of has (length has.state.parts - 1) (omega (arith, some)) in
              let last_o : is_ordered last.0.order ≡ true = sym (t.alike caller call part (length has.state.parts - 1) p last.0 has last.1) ∙ ordered in
              let less = t.rising caller call n (length has.state.parts - 1) q last.0 x gt last.1 own last_o o in
              inr (omega (arith, less, some))
        ]
      ]

  moved : (n q : ℕ) (x : PartState) (own : Has s caller n q x) → is_ordered x.order ≡ true
      → status_of (phase_after n q (GiveUp call) own.state.is_wanted x) ≡ given_up (places call) (length has.state.parts) (places n + q) (status_of x.phase)
  moved n q x own o =
      by_test (eqb call n)
      (λ k.
      let same : call ≡ n = eqb-true call n k in
      let at : places call ≡ places n = ap places same in
      let one : own.state ≡ has.state = same_call own.state has.state (sym own.call_is ∙ ap (λ m. call_at m s) (sym same) ∙ has.call_is) in
      let inside : q < length has.state.parts = subst (λ (c : CallState). q < length c.parts) one (part_within own) in
      rw k (given_status (places call) (length has.state.parts) (places n + q) x.phase (omega (arith, at)) (omega (arith, at, inside))))
      (λ k.
      let ne : n ≢ call = λ e. false≢true (sym k ∙ eq-eqb call n (sym e)) in
      rw k (elim (elsewhere n q x own o ne) [
        | inl before ↦ sym (given_up_before (places call) (length has.state.parts) (places n + q) (status_of x.phase) before)
        | inr past ↦ sym (given_up_past (places call) (length has.state.parts) (places n + q) (status_of x.phase) past)
      ]))

  pub tied_given_up : (new : ℕ → Order) → May (GiveUp call) s → OrderGoes (given_up (places call) (length has.state.parts)) (orders caller) (new caller) → ((other : ℕ) → other ≢ caller → new other ≡ orders other)
      → AreTied (after (GiveUp call) s) places new
  tied_given_up new may goes others =
      tied_caller (GiveUp call) new caller (given_up (places call) (length has.state.parts)) t may tt
      (λ n q x own o low. moved n q x own o)
      (λ c n q x own ne.
      by_test (eqb call n)
      (λ k. absurd (ne (one_caller (subst (λ m. Has s c m q x) (sym (eqb-true call n k)) own) has)))
      (λ k. rw k refl))
      goes others

-- ---- a call that has none

-- a call of which no part has an order is given up
pub gave_up_free : {s : State} {places : ℕ → ℕ} {orders : ℕ → Order} (call : ℕ) (new : ℕ → Order) → AreTied s places orders → May (GiveUp call) s → ((caller part : ℕ) (p : PartState) → Has s caller call part p → is_ordered p.order ≡ false)
    → ((caller : ℕ) → new caller ≡ orders caller) → AreTied (after (GiveUp call) s) places new
gave_up_free {s = s} call new t may free same =
    tied_silent (GiveUp call) new t may tt
    (λ c n q x own o.
    by_test (eqb call n)
    (λ k. absurd (false≢true (sym (free c q x (subst (λ m. Has s c m q x) (sym (eqb-true call n k)) own)) ∙ o)))
    (λ k. rw k refl))
    same

-- no part of a call has an order, if one has none
pub all_free : {s : State} {places : ℕ → ℕ} {orders : ℕ → Order} {caller call part : ℕ} {p : PartState} → AreTied s places orders → Has s caller call part p → is_ordered p.order ≡ false
    → (other next : ℕ) (q : PartState) → Has s other call next q → is_ordered q.order ≡ false
all_free {s = s} {caller = caller} {call = call} {part = part} {p = p} t has free other next q own =
    t.alike caller call next part q p (subst (λ c. Has s c call next q) (one_caller own has) own) has ∙ free
