-- Which part of a slot may be asked, by the lane of the slot.
use Rattle.std.proofs.Common.{inl, inr, true, false, ◌≡◌, ◌≢◌, ◌<◌, ◌≤◌, ◌+◌, ◌-◌, ℕ, List, [], Option, None, Some, refl, sym, ap, ◌∙◌, subst, arith}
use Rattle.std.specs.Option.{unwrap_or}
use Rattle.std.specs.Map.{lookup}
use Rattle.std.specs.Ordering.{nat_cmp}
use Rattle.std.specs.BTreeMap.{is_at}
use Rattle.std.proofs.lemmas.Option.{same_Some}
use Rattle.std.proofs.lemmas.Bool.{cases_lt, cases_eq}
use Rattle.session_core.specs.declared.part.PartOrder.TheVariants.{OfSlot}
use Rattle.session_core.specs.declared.ordered_part.Askable.{Askable}
use Rattle.session_core.specs.declared.ordered_part.OrderedPart.{OrderedPart}
use Rattle.session_core.specs.declared.ordered_part.Status.{Status}
use Rattle.session_core.specs.declared.ordered_part.Status.TheVariants.{Waits, Asked, Settled, Unsent}
use Rattle.session_core.specs.Inner.Lane as lane
use Rattle.session_core.specs.Inner.Lane.{In, IsOpen, IsNext, IsLinkOf}
use Rattle.session_core.specs.Part.{have_slot}
use Rattle.session_core.specs.Order.{Order, no_order, ordered_at, is_done, is_effective, LetsBy, OnLink, MayAskAmong, IsOf, Offers, NamesWaiting, IsOvertaken}
use Rattle.session_core.specs.Inner.Tied.{Lanes, lane_of, IsSorted, IsFirstBar, IsTied, seen, statuses}
use Rattle.session_core.proofs.Places.{at_within, none_at}
use Rattle.session_core.proofs.LaneStates.{lane_none}
use Rattle.session_core.proofs.OrderTies.{slot_of_both, both_of_slot, status_part, part_status, others_ahead, none_before}

-- a part of an earlier call stands before
pub call_le : (order : Order) (a b : ℕ) (p q : OrderedPart) → IsSorted order → a ≤ b → ordered_at a order ≡ Some p → ordered_at b order ≡ Some q → p.seat.call ≤ q.seat.call
call_le order a b p q s le ep eq = elim (cases_eq a b) [
  | inl same ↦ let is : p ≡ q = same_Some p q (sym ep ∙ ap (λ n. ordered_at n order) same ∙ eq) in
      subst (λ (x : OrderedPart). p.seat.call ≤ x.seat.call) is (omega arith)
  | inr ne ↦ s.calls a b p q (omega arith) ep eq
]

pub place_lt : (order : Order) (a b : ℕ) (p q : OrderedPart) → IsSorted order → ordered_at a order ≡ Some p → ordered_at b order ≡ Some q → p.seat.call < q.seat.call → a < b
place_lt order a b p q s ep eq lt = elim (cases_lt a b) [
  | inl h ↦ h
  | inr ge ↦ let le = call_le order b a q p s ge eq ep in absurd (omega (arith, le, lt))
]

-- the slot of a part that is known
pub slot_is : (order : Order) (slot place : ℕ) (p : OrderedPart) → IsOf slot place order → ordered_at place order ≡ Some p → p.order ≡ OfSlot slot
slot_is order slot place p of e = ap (λ (x : OrderedPart). x.order) (same_Some p of.0 (sym e ∙ of.1)) ∙ of.2

lets : (link : ℕ) (p it : OrderedPart) → (p.status ≡ Waits → ⊥) → ((other : ℕ) → p.status ≡ Asked other → (other ≡ link)) → have_slot p.order it.order ≡ true → (s : Status) → p.status ≡ s → LetsBy link p it
lets link p it waits asked same Waits e = absurd (waits e)
lets link p it waits asked same (Asked other) e = inr (same, e ∙ ap Asked (asked other e))
lets link p it waits asked same Settled e = inl (ap is_done e)
lets link p it waits asked same Unsent e = inl (ap is_done e)

makes_way : (p : OrderedPart) → ((other : ℕ) → p.status ≡ Asked other → ⊥) → (p.status ≡ Settled → ⊥) → (s : Status) → p.status ≡ s → is_effective p.status ≡ false
makes_way p asked settled Waits e = ap is_effective e
makes_way p asked settled (Asked other) e = absurd (asked other e)
makes_way p asked settled Settled e = absurd (settled e)
makes_way p asked settled Unsent e = ap is_effective e

only_link : (only : Option ℕ) (link q : ℕ) (l : lane.Lane) → IsLinkOf only l → OnLink only link → In q l.asked → l.link ≡ link
only_link None link q l is on h = absurd (is q h)
only_link (Some k) link q l is on h = sym is.0 ∙ on

pub next_may : (order : Order) (lanes : Lanes) (bars : List ℕ) (slot place link : ℕ) (only : Option ℕ) → IsTied order lanes bars → IsNext place (lane_of slot lanes) → IsLinkOf only (lane_of slot lanes) → OnLink only link
    → MayAskAmong have_slot place link order × IsOf slot place order
next_may order lanes bars slot place link only t n is on =
    let l = t.lane slot in
    let it = status_part slot place order Waits (l.waiting_in place n.waits) in (
      record {
        it = it.0;
        there = it.1;
        waits = it.3;
        earlier = λ at p e lt same.
            let both = slot_of_both p.order it.0.order same in
            let of : p.order ≡ OfSlot slot = both.1 ∙ sym both.2 ∙ it.2 in
            let st = part_status slot at order p e of in
            let before = place_lt order at place p it.0 t.sorted e it.1 lt in
            lets link p it.0
            (λ w. let le = n.first at (l.waiting_there at (st ∙ ap (λ s. Some s) w)) in omega (arith, le, before))
            (λ other a.
            let h = l.asked_there at other (st ∙ ap (λ s. Some s) a) in
            let z = same_Some (Asked other) (Asked (lane_of slot lanes).link) (sym (st ∙ ap (λ s. Some s) a) ∙ l.asked_in at h) in
            (let q : other ≡ (lane_of slot lanes).link = cc in q) ∙ only_link only link at (lane_of slot lanes) is on h)
            same p.status refl;
        later = λ at p e lt same.
            let both = slot_of_both it.0.order p.order same in
            let of : p.order ≡ OfSlot slot = both.2 ∙ sym both.1 ∙ it.2 in
            let st = part_status slot at order p e of in
            let after = place_lt order place at it.0 p t.sorted it.1 e lt in
            makes_way p
            (λ other a. let b = n.behind at (l.asked_there at other (st ∙ ap (λ s. Some s) a)) in omega (arith, b, after))
            (λ s. let b = l.settled place at after (subst IsOpen (sym (l.waiting_in place n.waits)) tt) (st ∙ ap (λ x. Some x) s) in omega (arith, b, n.past, after))
            p.status refl;
      },
      (it.0, it.1, it.2),
    )

settled_not : (p : OrderedPart) → p.status ≡ Settled → is_effective p.status ≡ false → ⊥
settled_not p e f = let q : true ≡ false = ap is_effective (sym e) ∙ f in cc

pub asks_next : (order : Order) (lanes : Lanes) (bars : List ℕ) (slot place link : ℕ) → IsTied order lanes bars → MayAskAmong have_slot place link order → IsOf slot place order → IsNext place (lane_of slot lanes)
asks_next order lanes bars slot place link t m of =
    let l = t.lane slot in
    let is = slot_is order slot place m.it of m.there in
    let st = part_status slot place order m.it m.there is ∙ ap (λ s. Some s) m.waits in
    let w = at_within place order.first order.parts m.it m.there in
    record {
      waits = l.waiting_there place st;
      first = λ q h. none_before order place link slot q t.sorted m is (l.waiting_in q h);
      past = elim (cases_lt place (lane_of slot lanes).settled_end) [
        | inr ge ↦ ge
        | inl lt ↦
            let end : (lane_of slot lanes).settled_end - 1 + 1 ≡ (lane_of slot lanes).settled_end = omega (arith, lt) in
            let e = l.last ((lane_of slot lanes).settled_end - 1) end (omega (arith, lt, w.0)) in
            let p = status_part slot ((lane_of slot lanes).settled_end - 1) order Settled e in
            elim (cases_eq place ((lane_of slot lanes).settled_end - 1)) [
              | inl here ↦ let z : Some Waits ≡ Some Settled = sym st ∙ ap (statuses slot order) here ∙ e in absurd (cc)
              | inr ne ↦
                  let same = both_of_slot m.it.order p.0.order slot is p.2 in
                  absurd (settled_not p.0 p.3 (m.later ((lane_of slot lanes).settled_end - 1) p.0 p.1 (t.sorted.slots place ((lane_of slot lanes).settled_end - 1) m.it p.0 (omega (arith, lt, ne)) m.there p.1 same) same))
            ]
      ];
      behind = λ q h. (others_ahead order place link slot q (lane_of slot lanes).link t.sorted m is (l.asked_in q h)).1;
    }

-- what is offered, of the one that is next
pub next_offers : (order : Order) (lanes : Lanes) (bars : List ℕ) (slot : ℕ) (a : Askable) → IsTied order lanes bars → IsNext a.place (lane_of slot lanes) → IsLinkOf a.link (lane_of slot lanes)
    → (place link : ℕ) → Offers (Some a) place link → MayAskAmong have_slot place link order × IsOf slot place order
next_offers order lanes bars slot a t n is place link o =
    subst (λ (q : ℕ). MayAskAmong have_slot q link order × IsOf slot q order) o.0 (next_may order lanes bars slot a.place link a.link t n is o.1)

on_link : (only : Option ℕ) (link : ℕ) (l : lane.Lane) → IsLinkOf only l → ((q : ℕ) → In q l.asked → l.link ≡ link) → OnLink only link
on_link None link l is h = tt
on_link (Some k) link l is h = is.0 ∙ h is.1.0 is.1.1

pub offers_next : (order : Order) (lanes : Lanes) (bars : List ℕ) (slot : ℕ) (a : Askable) → IsTied order lanes bars → IsNext a.place (lane_of slot lanes) → IsLinkOf a.link (lane_of slot lanes)
    → (place link : ℕ) → MayAskAmong have_slot place link order → IsOf slot place order → Offers (Some a) place link
offers_next order lanes bars slot a t n is place link m of =
    let l = t.lane slot in
    let own = asks_next order lanes bars slot place link t m of in
    let low = n.first place own.waits in
    let high = own.first a.place n.waits in
    let same : a.place ≡ place = omega (arith, low, high) in (
      same,
      on_link a.link link (lane_of slot lanes) is (λ q h.
          let e = l.asked_in q h in
          let p = status_part slot q order (Asked (lane_of slot lanes).link) e in
          let slots = both_of_slot p.0.order m.it.order slot p.2 (slot_is order slot place m.it of m.there) in
          elim (m.earlier q p.0 p.1 (t.sorted.slots q place p.0 m.it (own.behind q h) p.1 m.there slots) slots) [
            | inl done ↦ (let z : true ≡ false = sym done ∙ ap is_done p.3 in absurd (cc))
            | inr on ↦ (let z : Asked (lane_of slot lanes).link ≡ Asked link = sym p.3 ∙ on.1 in (let w : (lane_of slot lanes).link ≡ link = cc in w))
          ]),
    )

-- what the code reads at the place of a part that waits
pub waiting_part : (order : Order) (lanes : Lanes) (bars : List ℕ) (slot place : ℕ) → IsTied order lanes bars → In place (lane_of slot lanes).waiting → (p : OrderedPart) × (ordered_at place order ≡ Some p) × (p.status ≡ Waits)
waiting_part order lanes bars slot place t h = let p = status_part slot place order Waits ((t.lane slot).waiting_in place h) in (p.0, p.1, p.3)

pub names : (order : Order) (place : ℕ) (p : OrderedPart) (x : OrderedPart) → ordered_at place order ≡ Some p → p.status ≡ Waits → ordered_at place order ≡ Some x → NamesWaiting place x.seat order
names order place p x e waits there = (p, e, ap (λ (y : OrderedPart). y.seat) (same_Some p x (sym e ∙ there)), waits)

-- ---- overtaken parts

pub over_is : (order : Order) (lanes : Lanes) (bars : List ℕ) (slot place : ℕ) → IsTied order lanes bars → In place (lane_of slot lanes).waiting → place < (lane_of slot lanes).settled_end → IsOvertaken place order × IsOf slot place order
over_is order lanes bars slot place t h lt =
    let l = t.lane slot in
    let st = l.waiting_in place h in
    let it = status_part slot place order Waits st in
    let w = at_within place order.first order.parts it.0 it.1 in
    let end : (lane_of slot lanes).settled_end - 1 + 1 ≡ (lane_of slot lanes).settled_end = omega (arith, lt) in
    let e = l.last ((lane_of slot lanes).settled_end - 1) end (omega (arith, lt, w.0)) in
    let p = status_part slot ((lane_of slot lanes).settled_end - 1) order Settled e in
    let ne : place ≢ (lane_of slot lanes).settled_end - 1 = λ here. (let z : Some Waits ≡ Some Settled = sym st ∙ ap (statuses slot order) here ∙ e in cc) in
    let same = both_of_slot it.0.order p.0.order slot it.2 p.2 in (
      record {
        it = it.0;
        there = it.1;
        waits = it.3;
        at = (lane_of slot lanes).settled_end - 1;
        other = p.0;
        other_there = p.1;
        is_later = t.sorted.slots place ((lane_of slot lanes).settled_end - 1) it.0 p.0 (omega (arith, lt, ne)) it.1 p.1 same;
        same_slot = same;
        settled = p.3;
      },
      (it.0, it.1, it.2),
    )

pub over_told : (order : Order) (lanes : Lanes) (bars : List ℕ) (slot place : ℕ) → IsTied order lanes bars → IsOvertaken place order → IsOf slot place order
    → In place (lane_of slot lanes).waiting × (place < (lane_of slot lanes).settled_end)
over_told order lanes bars slot place t over of =
    let l = t.lane slot in
    let is = slot_is order slot place over.it of over.there in
    let both = slot_of_both over.it.order over.other.order over.same_slot in
    let st = part_status slot place order over.it over.there is ∙ ap (λ s. Some s) over.waits in
    let later = part_status slot over.at order over.other over.other_there (both.2 ∙ sym both.1 ∙ is) ∙ ap (λ s. Some s) over.settled in
    let lt = place_lt order place over.at over.it over.other t.sorted over.there over.other_there over.is_later in
    let less = l.settled place over.at lt (subst IsOpen (sym st) tt) later in
    (l.waiting_there place st, omega (arith, lt, less))

-- ---- bars

pub first_bar_is : (order : Order) (lanes : Lanes) (bars : List ℕ) (place : ℕ) (p : OrderedPart) → IsTied order lanes bars → In place bars → ((q : ℕ) → In q bars → place ≤ q) → ordered_at place order ≡ Some p → IsFirstBar p order
first_bar_is order lanes bars place p t h first e =
    let bar = t.bar_in place h in
    let is : bar.0 ≡ p = same_Some bar.0 p (sym bar.1 ∙ e) in
    record {
      place = place;
      there = e;
      whole = ap (λ (x : OrderedPart). x.order) (sym is) ∙ bar.2;
      not_done = ap (λ (x : OrderedPart). is_done x.status) (sym is) ∙ bar.3;
      first = λ at other. first at (t.bar_there at other);
    }

-- ---- an order without parts

pub tied_none : (lanes : Lanes) → lanes ≡ [] → IsTied no_order lanes []
tied_none lanes none = record {
  sorted = record {
    calls = λ at after p q lt ep eq. absurd (nothing at p ep);
    slots = λ at after p q lt ep eq same. absurd (nothing at p ep);
    no_free = λ at p e free. nothing at p e;
    fits = omega arith;
  };
  lane = λ slot.
      let is : lane_of slot lanes ≡ lane.no_lane = ap (λ (es : List (ℕ × lane.Lane)). unwrap_or (lookup (is_at (nat_cmp slot)) es) lane.no_lane) none in
      subst (lane.IsLaneOf 0 (statuses slot no_order)) (sym is) (lane_none (statuses slot no_order) (λ q. ap (seen slot) (none_at {X = OrderedPart} q 0 [] refl)));
  bar_in = λ q h. absurd h;
  bar_there = λ q bar. absurd (nothing q bar.0 bar.1);
  ascends = tt;
}
  where
    nothing : (at : ℕ) (p : OrderedPart) → ordered_at at no_order ≡ Some p → ⊥
    nothing at p e = let n = none_at {X = OrderedPart} at 0 [] refl in let q : ◌≡◌ {A = Option OrderedPart} None (Some p) = sym n ∙ e in cc
