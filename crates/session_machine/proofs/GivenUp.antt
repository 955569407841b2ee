-- The parts of a call are given up one after the other.
use Rattle.std.proofs.Common.{inl, inr, true, ◌≡◌, ◌≢◌, ◌≤◌, ◌+◌, ◌-◌, ℕ, refl, sym, ap, ◌∙◌, subst, arith}
use Rattle.std.proofs.lemmas.Option.{same_Some}
use Rattle.std.proofs.lemmas.Bool.{cases_lt, cases_eq}
use Rattle.session_core.specs.declared.ordered_part.OrderedPart.{OrderedPart}
use Rattle.session_core.specs.declared.ordered_part.Status.{Status}
use Rattle.session_core.specs.declared.ordered_part.Status.TheVariants.{Waits, Asked, Settled, Unsent}
use Rattle.session_core.specs.Order.{Order, no_order, ordered_at, is_done, IsWaiting, with_status, trimmed}
use Rattle.session_machine.specs.Ties.{OrderGoes, given_up, end_of}
use Rattle.session_machine.proofs.Ties.Goes.{given_up_in, given_up_before, given_up_past, gets_here, gets_other, goes_as, goes_same, goes_then, goes_done}

-- ---- the statuses

done_stays : (place count at : ℕ) (s : Status) → is_done s ≡ true → is_done (given_up place count at s) ≡ true
done_stays place count at Waits done = absurd (cc)
done_stays place count at (Asked link) done = absurd (cc)
done_stays place count at Settled done = refl
done_stays place count at Unsent done = refl

only_here : (place at : ℕ) (s : Status) → at ≢ place → given_up place 1 at s ≡ s
only_here place at s ne = elim (cases_lt at place) [
  | inl below ↦ given_up_before place 1 at s below
  | inr from ↦ given_up_past place 1 at s (omega (arith, ne, from))
]

no_places : (place at : ℕ) (s : Status) → given_up place 0 at s ≡ s
no_places place at s = elim (cases_lt at place) [
  | inl below ↦ given_up_before place 0 at s below
  | inr from ↦ given_up_past place 0 at s (omega (arith, from))
]

none_waits : (place at : ℕ) (s : Status) → (s ≡ Waits → ⊥) → given_up place 1 at s ≡ s
none_waits place at (Asked link) not = refl
none_waits place at Settled not = refl
none_waits place at Unsent not = refl
none_waits place at Waits not = absurd (not refl)

one_more : (place count at : ℕ) (s : Status) → given_up (place + count) 1 at (given_up place count at s) ≡ given_up place (count + 1) at s
one_more place count at (Asked link) = refl
one_more place count at Settled = refl
one_more place count at Unsent = refl
one_more place count at Waits = elim (cases_lt at place) [
  | inl below ↦ ap (given_up (place + count) 1 at) (given_up_before place count at Waits below) ∙ given_up_before (place + count) 1 at Waits (omega arith) ∙ sym (given_up_before place (count + 1) at Waits below)
  | inr from ↦ elim (cases_lt at (place + count)) [
    | inl within ↦ ap (given_up (place + count) 1 at) (given_up_in place count at from within) ∙ sym (given_up_in place (count + 1) at from (omega arith))
    | inr past ↦ ap (given_up (place + count) 1 at) (given_up_past place count at Waits past) ∙ elim (cases_eq at (place + count)) [
      | inl here ↦ given_up_in (place + count) 1 at past (omega (arith, here)) ∙ sym (given_up_in place (count + 1) at from (omega (arith, here)))
      | inr other ↦ given_up_past (place + count) 1 at Waits (omega (arith, other, past)) ∙ sym (given_up_past place (count + 1) at Waits (omega (arith, other, past)))
    ]
  ]
]

-- ---- steps of the code

pub one_given_up : (place : ℕ) (order new : Order) → IsWaiting place order → new ≡ trimmed (with_status place Unsent order) → OrderGoes (given_up place 1) order new
one_given_up place order new waits is =
    subst (OrderGoes (given_up place 1) order) (sym is)
    (goes_as (goes_done place Unsent order waits.0 waits.1) (λ at x e. elim (cases_eq at place) [
      | inl same ↦
          let one : x ≡ waits.0 = same_Some x waits.0 (sym e ∙ ap (λ n. ordered_at n order) same ∙ waits.1) in
          let status : x.status ≡ Waits = ap (λ (y : OrderedPart). y.status) one ∙ waits.2 in
          gets_here place at Unsent x.status same ∙ sym (ap (given_up place 1 at) status ∙ given_up_in place 1 at (omega (arith, same)) (omega (arith, same)))
      | inr other ↦ gets_other place at Unsent x.status other ∙ sym (only_here place at x.status other)
    ]))

pub none_given_up : (place : ℕ) (order : Order) → (IsWaiting place order → ⊥) → OrderGoes (given_up place 1) order order
none_given_up place order not = goes_as (goes_same order) (λ at x e. elim (cases_eq at place) [
  | inl same ↦ sym (none_waits place at x.status (λ waits. not (x, ap (λ n. ordered_at n order) (sym same) ∙ e, waits)))
  | inr other ↦ sym (only_here place at x.status other)
])

pub up_none : (place count : ℕ) (order : Order) → count ≡ 0 → OrderGoes (given_up place count) order order
up_none place count order none = subst (λ (n : ℕ). OrderGoes (given_up place n) order order) (sym none) (goes_as (goes_same order) (λ at x e. sym (no_places place at x.status)))

pub up_more : (place at : ℕ) (old mid new : Order) → place ≤ at → OrderGoes (given_up place (at - place)) old mid → OrderGoes (given_up at 1) mid new → OrderGoes (given_up place (at + 1 - place)) old new
up_more place at old mid new low u v =
    let here : place + (at - place) ≡ at = omega (arith, low) in
    let next : at - place + 1 ≡ at + 1 - place = omega (arith, low) in
    subst (λ (n : ℕ). OrderGoes (given_up place n) old new) next
    (goes_as (goes_then u v (done_stays at 1))
    (λ q x e. subst (λ (n : ℕ). given_up n 1 q (given_up place (at - place) q x.status) ≡ given_up place (at - place + 1) q x.status) here (one_more place (at - place) q x.status)))

-- an order without parts goes any way
pub up_nothing : (place count : ℕ) (order : Order) → place + count ≤ end_of order → order ≡ no_order → OrderGoes (given_up place count) order order
up_nothing place count order within e =
    let end = ap end_of e in
    up_none place count order (omega (arith, within, end))
