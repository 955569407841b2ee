-- The parts of a call join one after the other, or all are taken back.
use Rattle.std.proofs.Common.{inl, inr, true, false, ◌≡◌, ◌<◌, ◌≤◌, ◌+◌, ◌-◌, ◌++◌, ◌⊎◌, ℕ, zero, suc, List, [], ◌∷◌, length, length-append, take, append_assoc, Option, None, Some, refl, sym, ap, ◌∙◌, subst, arith}
use Rattle.std.specs.List.{slice_get}
use Rattle.std.proofs.lemmas.List.{length-take-le}
use Rattle.std.proofs.Math.Seq.{take-append_seam, take-length}
use Rattle.std.proofs.lemmas.Option.{same_Some, slice_get_within}
use Rattle.session_core.specs.declared.part.PartOrder.{PartOrder}
use Rattle.session_core.specs.declared.part.PartOrder.TheVariants.{Free}
use Rattle.session_core.specs.declared.ordered_part.OrderedPart.{OrderedPart}
use Rattle.session_core.specs.declared.ordered_part.Status.TheVariants.{Waits}
use Rattle.session_core.specs.Order.{Order, no_order, ordered_at, is_done, is_effective, MayJoin, waiting_parts, joined}
use Rattle.session_core.specs.Inner.Tied.{MayFollow, IsLastOpen, AreLastOpen, IsGateKept, pushed, without_last, first_parts}
use Rattle.session_core.proofs.Places.{at_from, at_within, at_there, none_at}

get_appended : {X : Type 0} (xs ys : List X) (i : ℕ) (x : X) → slice_get (xs ++ ys) i ≡ Some x → (slice_get xs i ≡ Some x) ⊎ ((length xs ≤ i) × (slice_get ys (i - length xs) ≡ Some x))
get_appended [] ys i x e = inr (omega arith, (let z : i - 0 ≡ i = omega arith in ap (slice_get ys) z ∙ e))
get_appended (y ∷ xs) ys zero x e = inl e
get_appended (y ∷ xs) ys (suc i) x e = elim (get_appended xs ys i x e) [
  | inl h ↦ inl h
  | inr h ↦ inr (omega (arith, h.0), (let z : suc i - suc (length xs) ≡ i - length xs = omega arith in ap (slice_get ys) z ∙ h.1))
]

waiting_at : (call n : ℕ) (orders : List PartOrder) (i : ℕ) (p : OrderedPart) → slice_get (waiting_parts call n orders) i ≡ Some p → (p.seat.call ≡ call) × (p.status ≡ Waits) × (slice_get orders i ≡ Some p.order)
waiting_at call n [] i p e = absurd (cc)
waiting_at call n (o ∷ os) zero p e =
    let is = same_Some (record { seat = record { call = call; part = n }; order = o; status = Waits }) p e in
    (ap (λ (x : OrderedPart). x.seat.call) (sym is), ap (λ (x : OrderedPart). x.status) (sym is), ap (λ (x : OrderedPart). Some x.order) is)
waiting_at call n (o ∷ os) (suc i) p e = waiting_at call (n + 1) os i p e

pub length-waiting : (call n : ℕ) (orders : List PartOrder) → length (waiting_parts call n orders) ≡ length orders
length-waiting call n [] = refl
length-waiting call n (o ∷ os) = ap suc (length-waiting call (n + 1) os)

waiting_next : (call n : ℕ) (orders : List PartOrder) (i : ℕ) (o : PartOrder) → slice_get orders i ≡ Some o
    → waiting_parts call n (take (suc i) orders) ≡ waiting_parts call n (take i orders) ++ record { seat = record { call = call; part = n + i }; order = o; status = Waits } ∷ []
waiting_next call n [] i o e = absurd (cc)
waiting_next call n (x ∷ xs) zero o e =
    let same : x ≡ o = same_Some x o e in
    let z : n ≡ n + 0 = omega arith in
    let f : ℕ → PartOrder → List OrderedPart = λ k y. record { seat = record { call = call; part = k }; order = y; status = Waits } ∷ [] in
    ap (λ k. f k x) z ∙ ap (f (n + 0)) same
waiting_next call n (x ∷ xs) (suc i) o e =
    let z : n + 1 + i ≡ n + suc i = omega arith in
    let first : OrderedPart = record { seat = record { call = call; part = n }; order = x; status = Waits } in
    let f : ℕ → List OrderedPart = λ k. first ∷ (waiting_parts call (n + 1) (take i xs) ++ record { seat = record { call = call; part = k }; order = o; status = Waits } ∷ []) in
    ap (λ (ps : List OrderedPart). first ∷ ps) (waiting_next call (n + 1) xs i o e) ∙ ap f z

pub joined_next : (call : ℕ) (orders : List PartOrder) (order : Order) (i : ℕ) (o : PartOrder) → slice_get orders i ≡ Some o
    → pushed (record { call = call; part = i }) o (joined call (take i orders) order) ≡ joined call (take (i + 1) orders) order
joined_next call orders order i o e =
    let z : 0 + i ≡ i = omega arith in
    let one : suc i ≡ i + 1 = omega arith in
    let f : List OrderedPart → Order = λ ps. record { first = order.first; parts = ps } in
    let g : ℕ → List OrderedPart = λ k. waiting_parts call 0 (take i orders) ++ record { seat = record { call = call; part = k }; order = o; status = Waits } ∷ [] in
    ap f (append_assoc order.parts (waiting_parts call 0 (take i orders)) (record { seat = record { call = call; part = i }; order = o; status = Waits } ∷ []) ∙ ap (λ ps. order.parts ++ ps) (ap g (sym z) ∙ sym (waiting_next call 0 orders i o e) ∙ ap (λ k. waiting_parts call 0 (take k orders)) one))

-- what stands among the parts of a call and those before
pub joined_cases : (call : ℕ) (orders : List PartOrder) (order : Order) (at : ℕ) (p : OrderedPart) → ordered_at at (joined call orders order) ≡ Some p
    → (ordered_at at order ≡ Some p) ⊎ ((order.first + length order.parts ≤ at) × (p.seat.call ≡ call) × (p.status ≡ Waits) × (slice_get orders (at - order.first - length order.parts) ≡ Some p.order))
joined_cases call orders order at p e =
    let parts = order.parts ++ waiting_parts call 0 orders in
    let w = at_within at order.first (order.parts ++ waiting_parts call 0 orders) p e in
    let read = sym (at_from at order.first (order.parts ++ waiting_parts call 0 orders) w.0) ∙ e in
    elim (get_appended order.parts (waiting_parts call 0 orders) (at - order.first) p read) [
      | inl h ↦ inl (at_from at order.first order.parts w.0 ∙ h)
      | inr h ↦ let v = waiting_at call 0 orders (at - order.first - length order.parts) p h.1 in inr (omega (arith, h.0, w.0), v.0, v.1, v.2)
    ]

get_front : {X : Type 0} (xs : List X) (n i : ℕ) (x : X) → slice_get (take n xs) i ≡ Some x → (i < n) × (slice_get xs i ≡ Some x)
get_front [] zero i x e = absurd (cc)
get_front [] (suc n) i x e = absurd (cc)
get_front (y ∷ xs) zero i x e = absurd (cc)
get_front (y ∷ xs) (suc n) zero x e = (omega arith, e)
get_front (y ∷ xs) (suc n) (suc i) x e = let h = get_front xs n i x e in (omega (arith, h.0), h.1)

pub may_follow : (call : ℕ) (orders : List PartOrder) (order : Order) (i : ℕ) (o : PartOrder) → MayJoin call orders order → slice_get orders i ≡ Some o → MayFollow call o (joined call (take i orders) order)
may_follow call orders order i o may e = record {
  later = λ at p ep. elim (joined_cases call (take i orders) order at p ep) [
    | inl old ↦ let lt = may.later at p old in omega arith
    | inr new ↦ omega (arith, new.1)
  ];
  apart = λ at p ep same. elim (joined_cases call (take i orders) order at p ep) [
    | inl old ↦ may.later at p old
    | inr new ↦
        let f = get_front orders i (at - order.first - length order.parts) p.order new.3 in
        let q : true ≡ false = sym same ∙ may.apart (at - order.first - length order.parts) i p.order o f.0 f.1 e in
        absurd (cc)
  ];
  not_free = may.ordered i o e;
}

-- ---- parts are taken back

pub last_open : (order : Order) (count left : ℕ) → AreLastOpen count order → 0 < left → left ≤ count → IsLastOpen (first_parts (length order.parts - (count - left)) order)
last_open order count left ends some within =
    let n : ℕ = length order.parts - (count - left) in
    let many : length (take (length order.parts - (count - left)) order.parts) ≡ length order.parts - (count - left) = length-take-le (length order.parts - (count - left)) order.parts (omega arith) in
    let at = at_there (order.first + (length (take (length order.parts - (count - left)) order.parts) - 1)) order.first (take (length order.parts - (count - left)) order.parts) (omega arith) (omega (arith, many, ends.within)) in
    let index : order.first + (length (take (length order.parts - (count - left)) order.parts) - 1) - order.first ≡ length order.parts - (count - left) - 1 = omega (arith, many) in
    let read : slice_get (take (length order.parts - (count - left)) order.parts) (length order.parts - (count - left) - 1) ≡ Some at.0 =
    ap (slice_get (take (length order.parts - (count - left)) order.parts)) (sym index)
    ∙ sym (at_from (order.first + (length (take (length order.parts - (count - left)) order.parts) - 1)) order.first (take (length order.parts - (count - left)) order.parts) (omega arith)) ∙ at.1 in
    let f = get_front order.parts (length order.parts - (count - left)) (length order.parts - (count - left) - 1) at.0 read in
    (at.0, at.1, ends.wait (length order.parts - (count - left) - 1) at.0 (omega (arith, ends.within)) f.1)

take_front : {X : Type 0} (n m : ℕ) (xs : List X) → n ≤ m → take n (take m xs) ≡ take n xs
take_front zero zero xs h = refl
take_front zero (suc m) [] h = refl
take_front zero (suc m) (x ∷ xs) h = refl
take_front (suc n) zero xs h = absurd (omega arith)
take_front (suc n) (suc m) [] h = refl
take_front (suc n) (suc m) (x ∷ xs) h = ap (λ ys. x ∷ ys) (take_front n m xs (omega arith))

pub left_one : (order : Order) (count left : ℕ) → count ≤ length order.parts → 0 < left → left ≤ count
    → without_last (first_parts (length order.parts - (count - left)) order) ≡ first_parts (length order.parts - (count - (left - 1))) order
left_one order count left inside some within =
    let many : length (take (length order.parts - (count - left)) order.parts) ≡ length order.parts - (count - left) = length-take-le (length order.parts - (count - left)) order.parts (omega arith) in
    let less : length (take (length order.parts - (count - left)) order.parts) - 1 ≡ length order.parts - (count - (left - 1)) = omega (arith, many) in
    let f : List OrderedPart → Order = λ ps. record { first = order.first; parts = ps } in
    ap f (ap (λ n. take n (take (length order.parts - (count - left)) order.parts)) less
    ∙ take_front (length order.parts - (count - (left - 1))) (length order.parts - (count - left)) order.parts (omega arith))

pub all_left : (order : Order) → first_parts (length order.parts - 0) order ≡ order
all_left order =
    let z : length order.parts - 0 ≡ length order.parts = omega arith in
    let f : List OrderedPart → Order = λ ps. record { first = order.first; parts = ps } in
    ap f (ap (λ n. take n order.parts) z ∙ take-length order.parts)

-- the parts of a call are the last, and wait
pub joined_open : (call : ℕ) (orders : List PartOrder) (order : Order) (i : ℕ) → i ≤ length orders → AreLastOpen i (joined call (take i orders) order)
joined_open call orders order i le =
    let new = length-waiting call 0 (take i orders) in
    let many = length-append order.parts (waiting_parts call 0 (take i orders)) in
    let short = length-take-le i orders le in
    record {
      within = omega (arith, many, new, short);
      wait = λ j p low e. elim (get_appended order.parts (waiting_parts call 0 (take i orders)) j p e) [
        | inl h ↦ let w = slice_get_within order.parts j p h in absurd (omega (arith, w, low, many, new, short))
        | inr h ↦ (waiting_at call 0 (take i orders) (j - length order.parts) p h.1).1
      ];
    }

pub joined_undone : (call : ℕ) (orders : List PartOrder) (order : Order) (i : ℕ) → i ≤ length orders → first_parts (length (joined call (take i orders) order).parts - i) (joined call (take i orders) order) ≡ order
joined_undone call orders order i le =
    let new = length-waiting call 0 (take i orders) in
    let many = length-append order.parts (waiting_parts call 0 (take i orders)) in
    let short = length-take-le i orders le in
    let is : length (order.parts ++ waiting_parts call 0 (take i orders)) - i ≡ length order.parts = omega (arith, many, new, short) in
    let f : List OrderedPart → Order = λ ps. record { first = order.first; parts = ps } in
    ap f (ap (λ n. take n (order.parts ++ waiting_parts call 0 (take i orders))) is ∙ take-append_seam order.parts (waiting_parts call 0 (take i orders)))

-- ---- the gate after a call joined

pub gate_joined : (call : ℕ) (orders : List PartOrder) (order : Order) → MayJoin call orders order → IsGateKept order → (new : Order) → new ≡ joined call orders order → IsGateKept new
gate_joined call orders order may g new is = record {
  front = λ over.
      let first : new.first ≡ order.first = ap (λ (o : Order). o.first) is in
      let e : ordered_at order.first (joined call orders order) ≡ Some over.0 = subst (λ (o : Order). ordered_at order.first o ≡ Some over.0) is (ap (λ n. ordered_at n new) (sym first) ∙ over.1) in
      elim (joined_cases call orders order order.first over.0 e) [
        | inl old ↦ g.front (over.0, old, over.2)
        | inr fresh ↦ let q : true ≡ false = sym over.2 ∙ ap is_done fresh.2 in cc
      ];
  alone = λ at after p q ep eq lt whole took. elim (joined_cases call orders order after q (subst (λ (o : Order). ordered_at after o ≡ Some q) is eq)) [
    | inl oldq ↦ elim (joined_cases call orders order at p (subst (λ (o : Order). ordered_at at o ≡ Some p) is ep)) [
      | inl oldp ↦ g.alone at after p q oldp oldq lt whole took
      | inr fresh ↦ let less = may.later after q oldq in absurd (omega (arith, less, lt, fresh.1))
    ]
    | inr fresh ↦ let z : true ≡ false = sym took ∙ ap is_effective fresh.2 in absurd (cc)
  ];
}

-- a call of one part may be the first of its caller
pub may_join_first : (call : ℕ) (o : PartOrder) → (o ≡ Free → ⊥) → MayJoin call (o ∷ []) no_order
may_join_first call o not_free = record {
  later = λ at p e. let n = none_at {X = OrderedPart} at 0 [] refl in let q : ◌≡◌ {A = Option OrderedPart} None (Some p) = sym n ∙ e in absurd (cc);
  apart = λ i j a b lt ei ej. let w = slice_get_within (o ∷ []) j b ej in absurd (omega (arith, w, lt));
  ordered = λ i a e free. first i a e free;
}
  where
    first : (i : ℕ) (a : PartOrder) → slice_get (o ∷ []) i ≡ Some a → a ≡ Free → ⊥
    first zero a e free = not_free (same_Some o a e ∙ free)
    first (suc i) a e free = cc

-- and one of a later call after any that joined
pub may_join_next : (call next : ℕ) (orders : List PartOrder) (o : PartOrder) (order : Order) → MayJoin call orders order → call < next → (o ≡ Free → ⊥) → MayJoin next (o ∷ []) (joined call orders order)
may_join_next call next orders o order may lt not_free =
    let one = may_join_first next o not_free in
    record {
      later = λ at p e. elim (joined_cases call orders order at p e) [
        | inl old ↦ let h = may.later at p old in omega (arith, h, lt)
        | inr new ↦ omega (arith, new.1, lt)
      ];
      apart = one.apart;
      ordered = one.ordered;
    }
