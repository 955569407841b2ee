-- What a bar lets go: the rule for all parts of a caller, by the rule within a slot.
use Rattle.std.proofs.Common.{inl, inr, true, false, Bool, ◌≡◌, ◌≢◌, ◌<◌, ◌≤◌, ◌+◌, ◌-◌, ◌⊎◌, ℕ, List, [], ◌∷◌, length, length-drop, nat_lt, IfSome, IfNone, drop, if◌then◌else◌, Option, None, Some, refl, sym, ap, ◌∙◌, subst, arith}
use Rattle.std.specs.List.{slice_get}
use Rattle.std.proofs.lemmas.Option.{same_Some}
use Rattle.std.proofs.lemmas.Bool.{cases_eq}
use Rattle.std.proofs.lemmas.Bool.Decides.{nat_tests}
use Rattle.session_core.specs.declared.part.PartOrder.{PartOrder}
use Rattle.session_core.specs.declared.part.PartOrder.TheVariants.{OfSlot, Whole, Free}
use Rattle.session_core.specs.declared.ordered_part.Seat.{Seat}
use Rattle.session_core.specs.declared.ordered_part.Askable.{Askable}
use Rattle.session_core.specs.declared.ordered_part.OrderedPart.{OrderedPart}
use Rattle.session_core.specs.declared.ordered_part.Status.{Status}
use Rattle.session_core.specs.declared.ordered_part.Status.TheVariants.{Waits, Asked}
use Rattle.session_core.specs.Part.{have_slot, have_order}
use Rattle.session_core.specs.Order.{Order, no_order, ordered_at, is_done, IsTrimmed, is_effective, LetsBy, MayAskAmong, MayAsk, IsOf, Offers, NamesWaiting, IsOnItsWay, with_status, trimmed, trimmed_from}
use Rattle.session_core.specs.Inner.Tied.{IsSorted, IsBar, IsFirstBar, IsFirstOver, IsAlone, IsGateKept}
use Rattle.session_core.proofs.Places.{at_from, at_within, at_there, none_at, dropped_other, changed_same, changed_other}
use Rattle.session_core.proofs.OrderTies.{bool_cases, slot_of_both}
use Rattle.session_core.proofs.OrderAsks.{call_le}

-- ---- orders

whole_before : (o : PartOrder) → (o ≡ Free → ⊥) → have_order Whole o ≡ true
whole_before (OfSlot s) not = refl
whole_before Whole not = refl
whole_before Free not = absurd (not refl)

whole_after : (o : PartOrder) → (o ≡ Free → ⊥) → have_order o Whole ≡ true
whole_after (OfSlot s) not = refl
whole_after Whole not = refl
whole_after Free not = absurd (not refl)

slots_related : (a b : PartOrder) → have_slot a b ≡ true → have_order a b ≡ true
slots_related (OfSlot s) (OfSlot t) e = e
slots_related (OfSlot s) Whole e = absurd (cc)
slots_related (OfSlot s) Free e = absurd (cc)
slots_related Whole b e = absurd (cc)
slots_related Free b e = absurd (cc)

-- related parts, one of which has a slot: the other is whole, or has the same slot
related_to_slot : (a : PartOrder) (slot : ℕ) → have_order a (OfSlot slot) ≡ true → (a ≡ Whole) ⊎ (have_slot a (OfSlot slot) ≡ true)
related_to_slot (OfSlot s) slot e = inr e
related_to_slot Whole slot e = inl refl
related_to_slot Free slot e = absurd (cc)

slot_related_to : (a : PartOrder) (slot : ℕ) → have_order (OfSlot slot) a ≡ true → (a ≡ Whole) ⊎ (have_slot (OfSlot slot) a ≡ true)
slot_related_to (OfSlot s) slot e = inr e
slot_related_to Whole slot e = inl refl
slot_related_to Free slot e = absurd (cc)

whole_has_no_slot : (a b : PartOrder) → (a ≡ Whole) ⊎ (b ≡ Whole) → have_slot a b ≡ true → ⊥
whole_has_no_slot a b whole e =
    let s = slot_of_both a b e in
    elim whole [ inl w ↦ (let q : OfSlot s.0 ≡ Whole = sym s.1 ∙ w in cc) | inr w ↦ (let q : OfSlot s.0 ≡ Whole = sym s.2 ∙ w in cc) ]

-- a whole part lets another by only if it is done, and is let by only so
done_by : (link : ℕ) (p q : OrderedPart) → (p.order ≡ Whole) ⊎ (q.order ≡ Whole) → LetsBy link p q → is_done p.status ≡ true
done_by link p q whole lets = elim lets [ inl done ↦ done | inr on ↦ absurd (whole_has_no_slot p.order q.order whole on.0) ]

not_both : (b : Bool) → b ≡ true → b ≡ false → ⊥
not_both b t f = let q : true ≡ false = sym t ∙ f in cc

-- ---- questions

-- No bar is of an earlier call, if the first is not.
no_bar : (order : Order) (first : OrderedPart) (call : ℕ) → IsSorted order → IsFirstBar first order → call ≤ first.seat.call
    → (place : ℕ) (p : OrderedPart) → ordered_at place order ≡ Some p → p.seat.call < call → IsBar place order → ⊥
no_bar order first call s b free place p e lt bar =
    let le = call_le order b.place place first p s (b.first place bar) b.there e in
    omega (arith, le, lt, free)

pub slot_may : (order : Order) (slot place link : ℕ) → IsSorted order → IsGateKept order → (m : MayAskAmong have_slot place link order) → m.it.order ≡ OfSlot slot
    → ((at : ℕ) (p : OrderedPart) → ordered_at at order ≡ Some p → p.seat.call < m.it.seat.call → IsBar at order → ⊥)
    → MayAsk place link order
slot_may order slot place link s g m is free = record {
  it = m.it;
  there = m.there;
  waits = m.waits;
  earlier = λ at p e lt related. elim (related_to_slot p.order slot (ap (have_order p.order) (sym is) ∙ related)) [
    | inl whole ↦ elim (bool_cases (is_done p.status)) [
      | inl done ↦ inl done
      | inr undone ↦ absurd (free at p e lt (p, e, whole, undone))
    ]
    | inr same ↦ m.earlier at p e lt (ap (have_slot p.order) is ∙ same)
  ];
  later = λ at p e lt related. elim (slot_related_to p.order slot (ap (λ o. have_order o p.order) (sym is) ∙ related)) [
    | inl whole ↦ elim (bool_cases (is_effective p.status)) [
      | inl took ↦
          let done = g.alone place at m.it p m.there e lt (inr whole) took in
          let q : true ≡ false = sym done ∙ ap is_done m.waits in absurd (cc)
      | inr none ↦ none
    ]
    | inr same ↦ m.later at p e lt (ap (λ o. have_slot o p.order) is ∙ same)
  ];
}

pub slot_needs : (order : Order) (place link : ℕ) → MayAsk place link order → MayAskAmong have_slot place link order
slot_needs order place link m = record {
  it = m.it;
  there = m.there;
  waits = m.waits;
  earlier = λ at p e lt same. m.earlier at p e lt (slots_related p.order m.it.order same);
  later = λ at p e lt same. m.later at p e lt (slots_related m.it.order p.order same);
}

-- what may be asked is behind no bar
pub not_barred : (order : Order) (place link at : ℕ) (p : OrderedPart) → IsSorted order → (m : MayAsk place link order) → ordered_at at order ≡ Some p → p.seat.call < m.it.seat.call → IsBar at order → ⊥
not_barred order place link at p s m e lt bar =
    let is : bar.0 ≡ p = same_Some bar.0 p (sym bar.1 ∙ e) in
    let whole : p.order ≡ Whole = ap (λ (x : OrderedPart). x.order) (sym is) ∙ bar.2 in
    let related : have_order p.order m.it.order ≡ true = ap (λ o. have_order o m.it.order) whole ∙ whole_before m.it.order (λ free. s.no_free place m.it m.there free) in
    let done = done_by link p m.it (inl whole) (m.earlier at p e lt related) in
    not_both (is_done p.status) done (ap (λ (x : OrderedPart). is_done x.status) (sym is) ∙ bar.3)

pub whole_may : (order : Order) (place link : ℕ) (it : OrderedPart) → IsAlone order → ordered_at place order ≡ Some it → it.order ≡ Whole → it.status ≡ Waits
    → ((at : ℕ) (p : OrderedPart) → ordered_at at order ≡ Some p → p.seat.call < it.seat.call → ⊥)
    → MayAsk place link order
whole_may order place link it alone e whole waits none = record {
  it = it;
  there = e;
  waits = waits;
  earlier = λ at p ep lt related. absurd (none at p ep lt);
  later = λ at p ep lt related. elim (bool_cases (is_effective p.status)) [
    | inl took ↦
        let done = alone place at it p e ep lt (inl whole) took in
        let q : true ≡ false = sym done ∙ ap is_done waits in absurd (cc)
    | inr not ↦ not
  ];
}

-- no part is of an earlier call, if the first is not
pub none_earlier : (order : Order) (call : ℕ) → IsSorted order → ((front : OrderedPart) → ordered_at order.first order ≡ Some front → front.seat.call < call → ⊥)
    → (at : ℕ) (p : OrderedPart) → ordered_at at order ≡ Some p → p.seat.call < call → ⊥
none_earlier order call s free at p e lt =
    let w = at_within at order.first order.parts p e in
    let front = at_there order.first order.first order.parts (omega arith) (omega (arith, w.0, w.1)) in
    let le = call_le order order.first at front.0 p s w.0 front.1 e in
    free front.0 front.1 (omega (arith, le, lt))

-- ---- steps

pub gate_none : IsGateKept no_order
gate_none = record {
  front = λ over. let n = none_at {X = OrderedPart} 0 0 [] refl in let q : ◌≡◌ {A = Option OrderedPart} None (Some over.0) = sym n ∙ over.1 in cc;
  alone = λ at after p q ep eq lt whole took. let n = none_at {X = OrderedPart} at 0 [] refl in let z : ◌≡◌ {A = Option OrderedPart} None (Some p) = sym n ∙ ep in absurd (cc);
}

-- what stands at a place after a status changed
pub changed_cases : (order : Order) (place : ℕ) (s : Status) (p : OrderedPart) → ordered_at place order ≡ Some p → (at : ℕ) (x : OrderedPart) → ordered_at at (with_status place s order) ≡ Some x
    → ((at ≡ place) × (record p { status = s } ≡ x)) ⊎ ((at ≢ place) × (ordered_at at order ≡ Some x))
changed_cases order place s p e at x ex =
    let w = at_within place order.first order.parts p e in
    elim (cases_eq at place) [
      | inl same ↦ inl (same, same_Some (record p { status = s }) x (sym (changed_same (λ (part : OrderedPart). record part { status = s }) place order.first order.parts p e) ∙ ap (λ n. ordered_at n (with_status place s order)) (sym same) ∙ ex))
      | inr ne ↦ inr (ne, sym (changed_other (λ (part : OrderedPart). record part { status = s }) place at order.first order.parts w.0 ne) ∙ ex)
    ]

pub alone_changed : (order : Order) (place : ℕ) (s : Status) (p : OrderedPart) → IsAlone order → ordered_at place order ≡ Some p
    → (is_effective s ≡ true → (at : ℕ) (x : OrderedPart) → ordered_at at order ≡ Some x → x.seat.call < p.seat.call → (x.order ≡ Whole) ⊎ (p.order ≡ Whole) → is_done x.status ≡ true)
    → (is_done p.status ≡ true → is_done s ≡ true) → IsAlone (with_status place s order)
alone_changed order place s p a e took stays at after x y ex ey lt whole effective =
    elim (changed_cases order place s p e at x ex) [
      | inl here ↦ elim (changed_cases order place s p e after y ey) [
        | inl there ↦
            let same : x.seat ≡ y.seat = ap (λ (z : OrderedPart). z.seat) (sym here.1) ∙ ap (λ (z : OrderedPart). z.seat) there.1 in
            absurd (omega (arith, lt, ap (λ (z : Seat). z.call) same))
        | inr there ↦
            let seat : p.seat ≡ x.seat = ap (λ (z : OrderedPart). z.seat) here.1 in
            let order_is : p.order ≡ x.order = ap (λ (z : OrderedPart). z.order) here.1 in
            let less : p.seat.call < y.seat.call = subst (λ (z : Seat). z.call < y.seat.call) (sym seat) lt in
            let w : (p.order ≡ Whole) ⊎ (y.order ≡ Whole) = elim whole [ inl h ↦ inl (order_is ∙ h) | inr h ↦ inr h ] in
            let done = a place after p y e there.1 less w effective in
            ap (λ (z : OrderedPart). is_done z.status) (sym here.1) ∙ stays done
      ]
      | inr here ↦ elim (changed_cases order place s p e after y ey) [
        | inl there ↦
            let seat : p.seat ≡ y.seat = ap (λ (z : OrderedPart). z.seat) there.1 in
            let order_is : p.order ≡ y.order = ap (λ (z : OrderedPart). z.order) there.1 in
            let less : x.seat.call < p.seat.call = subst (λ (z : Seat). x.seat.call < z.call) (sym seat) lt in
            let w : (x.order ≡ Whole) ⊎ (p.order ≡ Whole) = elim whole [ inl h ↦ inl h | inr h ↦ inr (order_is ∙ h) ] in
            took (ap (λ (z : OrderedPart). is_effective z.status) there.1 ∙ effective) at x here.1 less w
        | inr there ↦ a at after x y here.1 there.1 lt whole effective
      ]
    ]

pub alone_part : (order new : Order) → IsAlone order → ((at : ℕ) (x : OrderedPart) → ordered_at at new ≡ Some x → ordered_at at order ≡ Some x) → IsAlone new
alone_part order new a was at after p q ep eq lt whole took = a at after p q (was at p ep) (was after q eq) lt whole took

-- a part that is not done gets a status that is not done
gate_open : (order : Order) (place : ℕ) (s : Status) (p : OrderedPart) → IsGateKept order → ordered_at place order ≡ Some p → is_done p.status ≡ false → is_done s ≡ false
    → (is_effective s ≡ true → (at : ℕ) (x : OrderedPart) → ordered_at at order ≡ Some x → x.seat.call < p.seat.call → (x.order ≡ Whole) ⊎ (p.order ≡ Whole) → is_done x.status ≡ true)
    → IsGateKept (with_status place s order)
gate_open order place s p g e undone stays took = record {
  front = λ over. elim (changed_cases order place s p e order.first over.0 over.1) [
    | inl here ↦ not_both (is_done s) (ap (λ (z : OrderedPart). is_done z.status) here.1 ∙ over.2) stays
    | inr here ↦ g.front (over.0, here.1, over.2)
  ];
  alone = alone_changed order place s p g.alone e took (λ done. absurd (not_both (is_done p.status) done undone));
}

pub gate_asked : (order : Order) (place link : ℕ) → IsSorted order → IsGateKept order → MayAsk place link order → IsGateKept (with_status place (Asked link) order)
gate_asked order place link s g m = gate_open order place (Asked link) m.it g m.there (ap is_done m.waits) refl (λ took at x e lt whole.
    let free_x : x.order ≡ Free → ⊥ = λ f. s.no_free at x e f in
    let free_it : m.it.order ≡ Free → ⊥ = λ f. s.no_free place m.it m.there f in
    let related : have_order x.order m.it.order ≡ true = elim whole [
      | inl h ↦ ap (λ o. have_order o m.it.order) h ∙ whole_before m.it.order free_it
      | inr h ↦ ap (have_order x.order) h ∙ whole_after x.order free_x
    ] in
    done_by link x m.it whole (m.earlier at x e lt related))

pub gate_refused : (order : Order) (place : ℕ) → IsGateKept order → IsOnItsWay place order → IsGateKept (with_status place Waits order)
gate_refused order place g way = gate_open order place Waits way.0 g way.2 (ap is_done way.3) refl (λ took. let q : false ≡ true = took in absurd (cc))

-- ---- done parts at the front

trimmed_or_not : (b : Bool) (first : ℕ) (p : OrderedPart) (ps : List OrderedPart) (at : ℕ) (x : OrderedPart)
    → (ordered_at at (trimmed_from (first + 1) ps) ≡ Some x → ordered_at at (record { first = first + 1; parts = ps }) ≡ Some x)
    → ordered_at at (if b then trimmed_from (first + 1) ps else record { first = first; parts = p ∷ ps }) ≡ Some x → ordered_at at (record { first = first; parts = p ∷ ps }) ≡ Some x
trimmed_or_not true first p ps at x rest h =
    let old = rest h in
    let w = at_within at (first + 1) ps x old in
    sym (dropped_other at first (p ∷ ps) (omega (arith, w.0))) ∙ old
trimmed_or_not false first p ps at x rest h = h

trimmed_was : (first : ℕ) (parts : List OrderedPart) (at : ℕ) (x : OrderedPart) → ordered_at at (trimmed_from first parts) ≡ Some x → ordered_at at (record { first = first; parts = parts }) ≡ Some x
trimmed_was first [] at x e = e
trimmed_was first (p ∷ ps) at x e = trimmed_or_not (is_done p.status) first p ps at x (trimmed_was (first + 1) ps at x) e

pub trimmed_at : (order : Order) (at : ℕ) (x : OrderedPart) → ordered_at at (trimmed order) ≡ Some x → ordered_at at order ≡ Some x
trimmed_at order at x e = trimmed_was order.first order.parts at x e

-- one more part at the front is forgotten
pub trimmed_one : (order : Order) → IsFirstOver order → trimmed (record { first = order.first + 1; parts = drop 1 order.parts }) ≡ trimmed order
trimmed_one order over = by order.first order.parts over.0 over.1 over.2
  where
    by : (first : ℕ) (parts : List OrderedPart) (p : OrderedPart) → ordered_at first (record { first = first; parts = parts }) ≡ Some p → is_done p.status ≡ true → trimmed_from (first + 1) (drop 1 parts) ≡ trimmed_from first parts
    by first [] p e done = let n = none_at {X = OrderedPart} first first [] refl in let q : ◌≡◌ {A = Option OrderedPart} None (Some p) = sym n ∙ e in absurd (cc)
    by first (x ∷ xs) p e done =
        let at : first - first ≡ 0 = omega arith in
        let is : x ≡ p = same_Some x p (sym (ap (slice_get (x ∷ xs)) at) ∙ sym (at_from first first (x ∷ xs) (omega arith)) ∙ e) in
        let d : is_done x.status ≡ true = ap (λ (z : OrderedPart). is_done z.status) is ∙ done in
        rw d refl

pub trimmed_none : (order : Order) → (IsFirstOver order → ⊥) → trimmed order ≡ order
trimmed_none order not = by order.first order.parts not
  where
    by : (first : ℕ) (parts : List OrderedPart) → (IsFirstOver (record { first = first; parts = parts }) → ⊥) → trimmed_from first parts ≡ record { first = first; parts = parts }
    by first [] not = refl
    by first (x ∷ xs) not =
        let at : first - first ≡ 0 = omega arith in
        let e : ordered_at first (record { first = first; parts = x ∷ xs }) ≡ Some x = at_from first first (x ∷ xs) (omega arith) ∙ ap (slice_get (x ∷ xs)) at in
        elim (bool_cases (is_done x.status)) [
          | inl done ↦ absurd (not (x, e, done))
          | inr undone ↦ rw undone refl
        ]

-- a part is done now, and the done parts at the front are forgotten
pub gate_done : (order : Order) (place : ℕ) (s : Status) (p : OrderedPart) → IsGateKept order → ordered_at place order ≡ Some p → is_done s ≡ true → (is_effective s ≡ true → is_effective p.status ≡ true)
    → (new : Order) → new ≡ trimmed (with_status place s order) → (IsFirstOver new → ⊥) → IsGateKept new
gate_done order place s p g e done was new is front = record {
  front = front;
  alone = alone_part (with_status place s order) new
      (alone_changed order place s p g.alone e (λ took at x ex lt whole. g.alone at place x p ex e lt whole (was took)) (λ _. done))
      (λ at x ex. trimmed_at (with_status place s order) at x (subst (λ (o : Order). ordered_at at o ≡ Some x) is ex));
}

pub first_open : (order : Order) → (IsFirstOver order → ⊥) → IsTrimmed order
first_open order front = λ p e. elim (bool_cases (is_done p.status)) [ inl done ↦ absurd (front (p, e, done)) | inr undone ↦ undone ]

pub trim_smaller : (order : Order) → IsFirstOver order → length (drop 1 order.parts) < length order.parts
trim_smaller order over = let w = at_within order.first order.first order.parts over.0 over.1 in let d = length-drop 1 order.parts in omega (arith, w.1, d)

-- ---- as the code asks

less_by : (a b : ℕ) → nat_lt a b ≡ true → a < b
less_by a b e = grind (arith, nat_tests)

not_less_by : (a b : ℕ) → nat_lt a b ≡ false → b ≤ a
not_less_by a b e = grind (arith, nat_tests)

pub barred_by : (order : Order) (call : ℕ) (bar : OrderedPart) → IsFirstBar bar order → nat_lt bar.seat.call call ≡ true
    → (place : ℕ) × (p : OrderedPart) × (ordered_at place order ≡ Some p) × (p.seat.call < call) × IsBar place order
barred_by order call bar b lt = (b.place, bar, b.there, less_by bar.seat.call call lt, (bar, b.there, b.whole, b.not_done))

pub unbarred_by : (order : Order) (call : ℕ) (bar : OrderedPart) → IsSorted order → IsFirstBar bar order → nat_lt bar.seat.call call ≡ false
    → (place : ℕ) (p : OrderedPart) → ordered_at place order ≡ Some p → p.seat.call < call → IsBar place order → ⊥
unbarred_by order call bar s b not = no_bar order bar call s b (not_less_by bar.seat.call call not)

named_call : (order : Order) (place : ℕ) (seat : Seat) (it : OrderedPart) → NamesWaiting place seat order → ordered_at place order ≡ Some it → it.seat ≡ seat
named_call order place seat it names e = ap (λ (p : OrderedPart). p.seat) (same_Some it names.0 (sym e ∙ names.1)) ∙ names.2

pub barred_none : (order : Order) (slot : ℕ) (a : Askable) → IsSorted order
    → ((place link : ℕ) → MayAskAmong have_slot place link order → IsOf slot place order → Offers (Some a) place link) → NamesWaiting a.place a.seat order
    → ((place : ℕ) × (p : OrderedPart) × (ordered_at place order ≡ Some p) × (p.seat.call < a.seat.call) × IsBar place order)
    → (place link : ℕ) → MayAsk place link order → IsOf slot place order → ⊥
barred_none order slot a s asks names bar place link m of =
    let o = asks place link (slot_needs order place link m) of in
    let seat = named_call order place a.seat m.it (subst (λ (n : ℕ). NamesWaiting n a.seat order) o.0 names) m.there in
    not_barred order place link bar.0 bar.1 s m bar.2 (subst (λ (x : Seat). bar.1.seat.call < x.call) (sym seat) bar.3) bar.4

pub free_may : (order : Order) (slot : ℕ) (a : Askable) → IsSorted order → IsGateKept order
    → ((place link : ℕ) → Offers (Some a) place link → MayAskAmong have_slot place link order × IsOf slot place order) → NamesWaiting a.place a.seat order
    → ((place : ℕ) (p : OrderedPart) → ordered_at place order ≡ Some p → p.seat.call < a.seat.call → IsBar place order → ⊥)
    → (place link : ℕ) → Offers (Some a) place link → MayAsk place link order × IsOf slot place order
free_may order slot a s g may names free place link offers =
    let m = may place link offers in
    let is : m.0.it.order ≡ OfSlot slot = ap (λ (p : OrderedPart). p.order) (same_Some m.0.it m.1.0 (sym m.0.there ∙ m.1.1)) ∙ m.1.2 in
    let seat = named_call order place a.seat m.0.it (subst (λ (n : ℕ). NamesWaiting n a.seat order) offers.0 names) m.0.there in
    (slot_may order slot place link s g m.0 is (λ at p e lt bar. free at p e (subst (λ (x : Seat). p.seat.call < x.call) seat lt) bar), m.1)

pub only_offers : (askable result : Option Askable) (place link : ℕ) → IfSome result (λ part. (askable ≡ Some part) × (part.place ≡ place))
    → IfNone result ((part : Askable) → askable ≡ Some part → part.place ≡ place → ⊥) → Offers askable place link → Offers result place link
only_offers None (Some r) place link same none offers = absurd offers
only_offers (Some a) (Some r) place link same none offers = subst (λ (x : Askable). Offers (Some x) place link) (same_Some a r same.0) offers
only_offers None None place link same none offers = absurd offers
only_offers (Some a) None place link same none offers = none a refl offers.0
