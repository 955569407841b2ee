-- A call begins: its parts join the order of its caller.
use Rattle.std.proofs.Common.{◌≡◌, ◌≢◌, ◌<◌, ◌≤◌, ◌+◌, ◌-◌, ◌++◌, ◌⊎◌, inl, inr, ℕ, zero, suc, true, List, [], ◌∷◌, length, None, Some, refl, sym, ap, ◌∙◌, subst, arith}
use Rattle.std.specs.Prelude.{map}
use Rattle.std.specs.List.{slice_get}
use Rattle.std.specs.Option.{option_map}
use Rattle.std.proofs.lemmas.Option.{same_Some, slice_get-map}
use Rattle.std.proofs.lemmas.Bool.{false≢true, cases_lt, cases_eq}
use Rattle.session_core.specs.declared.ordered_part.OrderedPart.{OrderedPart}
use Rattle.session_core.specs.declared.ordered_part.Status.{Status}
use Rattle.session_core.specs.declared.ordered_part.Status.TheVariants as status
use Rattle.session_core.specs.declared.part.PartOrder.{PartOrder}
use Rattle.session_core.specs.Order.{Order, ordered_at, MayJoin, joined, waiting_parts}
use Rattle.session_core.specs.LinkEvents as link
use Rattle.session_core.specs.Part.{PartState, is_waiting, have_slot}
use Rattle.session_core.specs.State.{CallState, State, Begin, begun, Has, May, after}
use Rattle.session_core.proofs.AfterEvents.{seen, all_at, call_is, not_forgotten, has_begun, call_came, call_new, begins}
use Rattle.session_core.proofs.Waiting.{same_part}
use Rattle.session_core.proofs.PlaceLists.{get_before}
use Rattle.session_core.proofs.Places.{at_from, at_within}
use Rattle.session_core.proofs.OrderJoins.{joined_cases}
use Rattle.session_machine.specs.Ties.{AreTied, AreOrdered, AreFree, is_ordered, ordered_part, end_of}
use Rattle.session_machine.proofs.Ties.Parts.{status_waiting, not_free}

-- the orders of parts
abbrev pub orders_of : List PartState → List PartOrder
orders_of parts = map (λ p. p.order) parts

-- ---- lists

get_after : {X : Type 0} (xs ys : List X) (i : ℕ) → slice_get (xs ++ ys) (length xs + i) ≡ slice_get ys i
get_after [] ys i = let z : 0 + i ≡ i = omega arith in ap (slice_get ys) z
get_after (x ∷ xs) ys i = let z : suc (length xs) + i ≡ suc (length xs + i) = omega arith in ap (slice_get (x ∷ (xs ++ ys))) z ∙ get_after xs ys i

waiting_get : (call n : ℕ) (orders : List PartOrder) (i : ℕ) (o : PartOrder) → slice_get orders i ≡ Some o
    → slice_get (waiting_parts call n orders) i ≡ Some (record { seat = record { call = call; part = n + i }; order = o; status = status.Waits })
waiting_get call n [] i o e = absurd (cc)
waiting_get call n (x ∷ xs) zero o e =
    let f : ℕ → PartOrder → OrderedPart = λ k y. record { seat = record { call = call; part = k }; order = y; status = status.Waits } in
    ap (λ k. Some (f k x)) (let z : n ≡ n + 0 = omega arith in z) ∙ ap (λ y. Some (f (n + 0) y)) (same_Some x o e)
waiting_get call n (x ∷ xs) (suc i) o e =
    let f : ℕ → OrderedPart = λ k. record { seat = record { call = call; part = k }; order = o; status = status.Waits } in
    waiting_get call (n + 1) xs i o e ∙ ap (λ k. Some (f k)) (let z : n + 1 + i ≡ n + suc i = omega arith in z)

order_at : (parts : List PartState) (i : ℕ) (o : PartOrder) → slice_get (orders_of parts) i ≡ Some o → (p : PartState) × (slice_get parts i ≡ Some p) × (p.order ≡ o)
order_at parts i o e =
    let f : PartState → PartOrder = λ p. p.order in
    let m : option_map f (slice_get parts i) ≡ Some o = sym (slice_get-map f parts i) ∙ e in
    elim (seen (slice_get parts i)) [
      | inl none ↦ let no : None ≡ Some o = ap (option_map f) (sym none) ∙ m in absurd (cc)
      | inr p ↦ (p.0, p.1, same_Some p.0.order o (ap (option_map f) (sym p.1) ∙ m))
    ]

-- ---- an order with the parts of one more call

pub joined_before : (call : ℕ) (orders : List PartOrder) (order : Order) (at : ℕ) (x : OrderedPart) → ordered_at at order ≡ Some x → ordered_at at (joined call orders order) ≡ Some x
joined_before call orders order at x e =
    let w = at_within at order.first order.parts x e in
    at_from at order.first (order.parts ++ waiting_parts call 0 orders) w.0
    ∙ get_before order.parts (waiting_parts call 0 orders) (at - order.first) (omega (arith, w.0, w.1))
    ∙ sym (at_from at order.first order.parts w.0) ∙ e

pub joined_at : (call : ℕ) (orders : List PartOrder) (order : Order) (i : ℕ) (o : PartOrder) → slice_get orders i ≡ Some o
    → ordered_at (end_of order + i) (joined call orders order) ≡ Some (record { seat = record { call = call; part = i }; order = o; status = status.Waits })
joined_at call orders order i o e =
    let f : ℕ → OrderedPart = λ k. record { seat = record { call = call; part = k }; order = o; status = status.Waits } in
    let at : order.first + length order.parts + i - order.first ≡ length order.parts + i = omega arith in
    at_from (order.first + length order.parts + i) order.first (order.parts ++ waiting_parts call 0 orders) (omega arith)
    ∙ ap (slice_get (order.parts ++ waiting_parts call 0 orders)) at
    ∙ get_after order.parts (waiting_parts call 0 orders) i
    ∙ waiting_get call 0 orders i o e
    ∙ ap (λ k. Some (f k)) (let z : 0 + i ≡ i = omega arith in z)

-- ---- who is there after a call began

-- A part that is there was there before, or is one of the call that began.
pub began_cases : {s : State} {other n q : ℕ} {p : PartState} (call caller : ℕ) (parts : List PartState) → May (Begin call caller parts) s → Has (after (Begin call caller parts) s) other n q p
    → (Has s other n q p × (n < call)) ⊎ ((other ≡ caller) × (n ≡ call) × (slice_get parts q ≡ Some p))
began_cases {s = s} {other = other} {n = n} {q = q} {p = p} call caller parts may has = elim (cases_lt n (begun s)) [
  | inl old ↦ elim (call_came link.May (Begin call caller parts) n s has.state may old has.call_is) [
    | inl c ↦
        let there = sym (c.2.parts q) ∙ has.part_is in
        elim (seen (slice_get c.0.parts q)) [
          | inl empty ↦ let no : None ≡ Some p = ap (option_map (λ (x : PartState). x)) (sym empty) ∙ there in absurd (cc)
          | inr x ↦
              let is : x.0 ≡ p = same_part x.0 p (ap (option_map (λ (y : PartState). y)) (sym x.1) ∙ there) in
              inl (
                record { state = c.0; call_is = c.1; caller_is = sym c.2.caller ∙ has.caller_is; part_is = x.1 ∙ ap Some is },
                omega (arith, old, may.0),
              )
        ]
    | inr left ↦ let no : None ≡ Some p = ap (λ (x : CallState). slice_get x.parts q) (sym left) ∙ has.part_is in absurd (cc)
  ]
  | inr new ↦
      let b : (c : ℕ) × (ps : List PartState) × (Begin call caller parts ≡ Begin n c ps) × (has.state ≡ record { caller = c; parts = ps; is_wanted = true }) = call_new link.May (Begin call caller parts) n s has.state may new has.call_is in
      let same_call_number : call ≡ n = cc (b.2) in
      let same_caller : caller ≡ b.0 = cc (b.2) in
      let same_parts : parts ≡ b.1 = cc (b.2) in
      inr (
        sym has.caller_is ∙ ap (λ (x : CallState). x.caller) b.3 ∙ sym same_caller,
        sym same_call_number,
        ap (λ ps. slice_get ps q) same_parts ∙ ap (λ (x : CallState). slice_get x.parts q) (sym b.3) ∙ has.part_is,
      )
]

pub began_keeps : {s : State} {other n q : ℕ} {p : PartState} (call caller : ℕ) (parts : List PartState) → Has s other n q p → Has (after (Begin call caller parts) s) other n q p
began_keeps {s = s} {n = n} call caller parts has =
    let h = not_forgotten n s has.state has.call_is in
    let w = has_begun n s has.state has.call_is in
    record {
      state = has.state;
      call_is = call_is n (after (Begin call caller parts) s) h ∙ get_before s.calls _ (n - s.first) (omega (arith, h, w)) ∙ sym (call_is n s h) ∙ has.call_is;
      caller_is = has.caller_is;
      part_is = has.part_is;
    }

pub began_here : {q : ℕ} {p : PartState} (s : State) (call caller : ℕ) (parts : List PartState) → call ≡ begun s → slice_get parts q ≡ Some p → Has (after (Begin call caller parts) s) caller call q p
began_here s call caller parts number is = record {
  state = record { caller = caller; parts = parts; is_wanted = true };
  call_is = begins call caller parts s number;
  caller_is = refl;
  part_is = is;
}

-- a part that stands in the order, or stood there, is before its end
pub before_end : {s : State} {places : ℕ → ℕ} {orders : ℕ → Order} {caller call part : ℕ} {p : PartState} → AreTied s places orders → Has s caller call part p → is_ordered p.order ≡ true → places call + part < end_of (orders caller) ⊎ (places call + part < (orders caller).first)
before_end {places = places} {orders = orders} {caller = caller} {call = call} {part = part} {p = p} t has o = elim (cases_lt (places call + part) (orders caller).first) [
  | inl gone ↦ inr gone
  | inr here ↦ inl (at_within (places call + part) (orders caller).first (orders caller).parts (ordered_part call part p) (t.stands caller call part p has o here)).1
]

-- ---- a call whose parts are ordered

module _ {s : State} {places : ℕ → ℕ} {orders : ℕ → Order} (call caller : ℕ) (parts : List PartState) (t : AreTied s places orders) (may : May (Begin call caller parts) s) (ordered : AreOrdered parts) where
  -- its parts may join the order of its caller
  pub may_join : MayJoin call (orders_of parts) (orders caller)
  may_join = record {
    later = λ at x e.
        let c = t.comes caller at x e in
        omega (arith, has_begun x.seat.call s c.1.state c.1.call_is, may.0);
    apart = λ i j a b lt ea eb.
        let p = order_at parts i a ea in
        let q = order_at parts j b eb in
        ap (λ o. have_slot o b) (sym p.2) ∙ ap (have_slot p.0.order) (sym q.2) ∙ may.2 i j p.0 q.0 lt p.1 q.1;
    ordered = λ i a e free.
        let p = order_at parts i a e in
        not_free p.0.order (ordered i p.0 p.1) (p.2 ∙ free);
  }

  module _ (new : ℕ → Order) (moved : ℕ → ℕ) (joins : new caller ≡ joined call (orders_of parts) (orders caller)) (others : (other : ℕ) → other ≢ caller → new other ≡ orders other)
      (place : moved call ≡ end_of (orders caller)) (stays : (n : ℕ) → n ≢ call → moved n ≡ places n) where
    same_first : (c : ℕ) → (new c).first ≡ (orders c).first
    same_first c = elim (cases_eq c caller) [
      | inl same ↦ ap (λ n. (new n).first) same ∙ ap (λ (o : Order). o.first) joins ∙ ap (λ n. (orders n).first) (sym same)
      | inr ne ↦ ap (λ (o : Order). o.first) (others c ne)
    ]

    kept_at : (c at : ℕ) (x : OrderedPart) → ordered_at at (orders c) ≡ Some x → ordered_at at (new c) ≡ Some x
    kept_at c at x e = elim (cases_eq c caller) [
      | inl same ↦ ap (λ n. ordered_at at (new n)) same ∙ ap (ordered_at at) joins ∙ joined_before call (orders_of parts) (orders caller) at x (ap (λ n. ordered_at at (orders n)) (sym same) ∙ e)
      | inr ne ↦ ap (ordered_at at) (others c ne) ∙ e
    ]

    old_place : (n : ℕ) → n < call → moved n ≡ places n
    old_place n lt = stays n (let ne : n ≢ call = omega arith in ne)

    new_at : (q : ℕ) (p : PartState) → slice_get parts q ≡ Some p → ordered_at (end_of (orders caller) + q) (new caller) ≡ Some (ordered_part call q p)
    new_at q p e =
        let f : PartState → PartOrder = λ x. x.order in
        let waits = status_waiting p.phase (all_at (λ x. is_waiting x.phase) parts q p may.1 e) in
        ap (ordered_at (end_of (orders caller) + q)) joins
        ∙ joined_at call (orders_of parts) (orders caller) q p.order (slice_get-map f parts q ∙ ap (option_map f) e)
        ∙ ap (λ (st : Status). Some (record (ordered_part call q p) { status = st })) (sym waits)

    Stands : ℕ → ℕ → OrderedPart → Type 0
    Stands c at x = (p : PartState) × Has (after (Begin call caller parts) s) c x.seat.call x.seat.part p × (x ≡ ordered_part x.seat.call x.seat.part p) × (is_ordered p.order ≡ true) × (at ≡ moved x.seat.call + x.seat.part)

    was_there : (c at : ℕ) (x : OrderedPart) → ordered_at at (orders c) ≡ Some x → Stands c at x
    unfolding Stands
    was_there c at x e =
        let b = t.comes c at x e in
        let older : x.seat.call < call = omega (arith, has_begun x.seat.call s b.1.state b.1.call_is, may.0) in
        (b.0, began_keeps call caller parts b.1, b.2, b.3, b.4 ∙ ap (λ n. n + x.seat.part) (sym (old_place x.seat.call older)))

    is_new : (at : ℕ) (x : OrderedPart) → end_of (orders caller) ≤ at → slice_get (orders_of parts) (at - (orders caller).first - length (orders caller).parts) ≡ Some x.order → ordered_at at (new caller) ≡ Some x → Stands caller at x
    unfolding Stands
    is_new at x low oe e =
        let k : ℕ = at - (orders caller).first - length (orders caller).parts in
        let at_is : end_of (orders caller) + (at - (orders caller).first - length (orders caller).parts) ≡ at = omega (arith, low) in
        let p = order_at parts (at - (orders caller).first - length (orders caller).parts) x.order oe in
        let is : ordered_part call (at - (orders caller).first - length (orders caller).parts) p.0 ≡ x = same_Some _ x (sym (new_at (at - (orders caller).first - length (orders caller).parts) p.0 p.1) ∙ ap (λ n. ordered_at n (new caller)) at_is ∙ e) in
        subst (λ (y : OrderedPart). (q : PartState) × Has (after (Begin call caller parts) s) caller y.seat.call y.seat.part q × (y ≡ ordered_part y.seat.call y.seat.part q) × (is_ordered q.order ≡ true) × (at ≡ moved y.seat.call + y.seat.part)) is
        (p.0, began_here s call caller parts may.0 p.1, refl, ordered (at - (orders caller).first - length (orders caller).parts) p.0 p.1, sym at_is ∙ ap (λ n. n + (at - (orders caller).first - length (orders caller).parts)) (sym place))

    pub tied_began : AreTied (after (Begin call caller parts) s) moved new
    unfolding Stands
    tied_began = record {
      forgotten = λ c n q p has o lt. elim (began_cases call caller parts may has) [
        | inl old ↦ t.forgotten c n q p old.0 o (omega (arith, old_place n old.1, same_first c, lt))
        | inr fresh ↦
            let at : moved n ≡ moved call = ap moved fresh.1 in
            let end : (new c).first ≡ (orders caller).first = same_first c ∙ ap (λ m. (orders m).first) fresh.0 in
            absurd (omega (arith, at, place, end, lt))
      ];
      stands = λ c n q p has o le. elim (began_cases call caller parts may has) [
        | inl old ↦
            let at : moved n + q ≡ places n + q = ap (λ m. m + q) (old_place n old.1) in
            ap (λ m. ordered_at m (new c)) at ∙ kept_at c (places n + q) (ordered_part n q p) (t.stands c n q p old.0 o (omega (arith, at, same_first c, le)))
        | inr fresh ↦
            let at : moved n + q ≡ end_of (orders caller) + q = ap (λ m. moved m + q) fresh.1 ∙ ap (λ m. m + q) place in
            ap (λ m. ordered_at m (new c)) at ∙ ap (λ m. ordered_at (end_of (orders caller) + q) (new m)) fresh.0 ∙ new_at q p fresh.2 ∙ ap (λ m. Some (ordered_part m q p)) (sym fresh.1)
      ];
      comes = λ c at x e. elim (cases_eq c caller) [
        | inr ne ↦ was_there c at x (ap (ordered_at at) (sym (others c ne)) ∙ e)
        | inl same ↦
            let here : ordered_at at (new caller) ≡ Some x = ap (λ m. ordered_at at (new m)) (sym same) ∙ e in
            elim (joined_cases call (orders_of parts) (orders caller) at x (ap (ordered_at at) (sym joins) ∙ here)) [
              | inl old ↦ was_there c at x (ap (λ m. ordered_at at (orders m)) same ∙ old)
              | inr fresh ↦ subst (λ m. Stands m at x) (sym same) (is_new at x fresh.0 fresh.3 here)
            ]
      ];
      rising = λ c first second i j p q lt hp hq op oq. elim (began_cases call caller parts may hp) [
        | inr a ↦ elim (began_cases call caller parts may hq) [
          | inl b ↦ absurd (omega (arith, a.1, b.1, lt))
          | inr b ↦ absurd (omega (arith, a.1, b.1, lt))
        ]
        | inl a ↦ elim (began_cases call caller parts may hq) [
          | inl b ↦ omega (arith, t.rising c first second i j p q lt a.0 b.0 op oq, old_place first a.1, old_place second b.1)
          | inr b ↦
              let at : moved second ≡ moved call = ap moved b.1 in
              let end : end_of (orders c) ≡ end_of (orders caller) = ap (λ m. end_of (orders m)) b.0 in
              elim (before_end t a.0 op) [
                | inl less ↦ omega (arith, less, at, place, end, old_place first a.1)
                | inr less ↦ omega (arith, less, at, place, end, old_place first a.1)
              ]
        ]
      ];
      alike = λ c n i j p q hp hq. elim (began_cases call caller parts may hp) [
        | inl a ↦ elim (began_cases call caller parts may hq) [
          | inl b ↦ t.alike c n i j p q a.0 b.0
          | inr b ↦ absurd (omega (arith, a.1, b.1))
        ]
        | inr a ↦ elim (began_cases call caller parts may hq) [
          | inl b ↦ absurd (omega (arith, a.1, b.1))
          | inr b ↦ ordered i p a.2 ∙ sym (ordered j q b.2)
        ]
      ];
    }

-- ---- a call of which no part is ordered

pub tied_began_free : {s : State} {places : ℕ → ℕ} {orders : ℕ → Order} (call caller : ℕ) (parts : List PartState) (new : ℕ → Order) (moved : ℕ → ℕ) → AreTied s places orders → May (Begin call caller parts) s → AreFree parts
    → ((other : ℕ) → new other ≡ orders other) → ((n : ℕ) → n ≢ call → moved n ≡ places n) → AreTied (after (Begin call caller parts) s) moved new
tied_began_free {s = s} {places = places} {orders = orders} call caller parts new moved t may free same stays = record {
  forgotten = λ c n q p has o lt.
      let old = was c n q p has o in
      t.forgotten c n q p old.0 o (omega (arith, old.1, ap (λ (x : Order). x.first) (same c), lt));
  stands = λ c n q p has o le.
      let old = was c n q p has o in
      let at : moved n + q ≡ places n + q = ap (λ m. m + q) old.1 in
      ap (λ m. ordered_at m (new c)) at ∙ ap (ordered_at (places n + q)) (same c) ∙ t.stands c n q p old.0 o (omega (arith, old.1, ap (λ (x : Order). x.first) (same c), le));
  comes = λ c at x e.
      let b = t.comes c at x (ap (ordered_at at) (sym (same c)) ∙ e) in
      let older : x.seat.call ≢ call = omega (arith, has_begun x.seat.call s b.1.state b.1.call_is, may.0) in
      (b.0, began_keeps call caller parts b.1, b.2, b.3, b.4 ∙ ap (λ n. n + x.seat.part) (sym (stays x.seat.call older)));
  rising = λ c first second i j p q lt hp hq op oq.
      let a = was c first i p hp op in
      let b = was c second j q hq oq in
      omega (arith, t.rising c first second i j p q lt a.0 b.0 op oq, a.1, b.1);
  alike = λ c n i j p q hp hq. elim (began_cases call caller parts may hp) [
    | inl a ↦ elim (began_cases call caller parts may hq) [
      | inl b ↦ t.alike c n i j p q a.0 b.0
      | inr b ↦ absurd (omega (arith, a.1, b.1))
    ]
    | inr a ↦ elim (began_cases call caller parts may hq) [
      | inl b ↦ absurd (omega (arith, a.1, b.1))
      | inr b ↦ free i p a.2 ∙ sym (free j q b.2)
    ]
  ];
}
  where
    was : (c n q : ℕ) (p : PartState) → Has (after (Begin call caller parts) s) c n q p → is_ordered p.order ≡ true → Has s c n q p × (moved n ≡ places n)
    was c n q p has o = elim (began_cases call caller parts may has) [
      | inl old ↦ (old.0, stays n (let ne : n ≢ call = omega (arith, old.1) in ne))
      | inr fresh ↦ absurd (false≢true (sym (free q p fresh.2) ∙ o))
    ]
