-- The order of a caller, the lanes of its slots and its bars stay tied, whatever step they take together.
use Rattle.std.proofs.Common.{inl, inr, true, false, Bool, ◌≡◌, ◌≢◌, ◌<◌, ◌≤◌, ◌+◌, ◌-◌, ◌^◌, ◌⊎◌, ℕ, List, [], ◌∷◌, length, length-append, length-drop, drop, Option, None, Some, refl, sym, ap, ◌∙◌, subst, arith}
use Rattle.std.proofs.lemmas.List.{length-take}
use Rattle.std.proofs.lemmas.Option.{same_Some}
use Rattle.std.proofs.lemmas.Bool.{cases_lt, cases_eq}
use Rattle.std.proofs.lemmas.Bool.Decides.{nat_tests}
use Rattle.session_core.specs.declared.part.PartOrder.{PartOrder}
use Rattle.session_core.specs.declared.part.PartOrder.TheVariants.{OfSlot, Whole, Free}
use Rattle.session_core.specs.declared.ordered_part.Seat.{Seat}
use Rattle.session_core.specs.declared.ordered_part.OrderedPart.{OrderedPart}
use Rattle.session_core.specs.declared.ordered_part.Status.{Status}
use Rattle.session_core.specs.declared.ordered_part.Status.TheVariants.{Waits, Asked, Settled, Unsent}
use Rattle.session_core.specs.Inner.Lane as lane
use Rattle.session_core.specs.Inner.Lane.{In, Ascends, IsOpen, IsLaneOf}
use Rattle.session_core.specs.Part.{have_slot}
use Rattle.session_core.specs.Order.{Order, ordered_at, is_done, is_effective, MayAskAmong, with_status}
use Rattle.session_core.specs.Inner.Tied.{Lanes, lane_of, AreSame, IsEmpty, Stepped, IsSorted, IsTied, MayChange, MayFollow, status_in, seen, statuses, entered, left, pushed, without_first, without_last}
use Rattle.session_core.proofs.Ascending.{same_place, in_pushed, pushed_in, in_without, without_in, ascends_pushed, ascends_without}
use Rattle.session_core.proofs.LaneStates.{MayMove, may_become, lane_changed, lane_gone, lane_joined, lane_same, lane_freed}
use Rattle.session_core.proofs.Places.{at_below, at_past, at_within, pushed_last, pushed_other, dropped_other, left_other, left_last, length-changed, changed_same, changed_other}

pub bool_cases : (b : Bool) → (b ≡ true) ⊎ (b ≡ false)
bool_cases true = inl refl
bool_cases false = inr refl

-- ---- orders of slots

pub of_slot : (order : PartOrder) (slot : ℕ) → (order ≡ OfSlot slot) ⊎ (order ≡ OfSlot slot → ⊥)
of_slot (OfSlot s) slot = elim (cases_eq s slot) [ inl e ↦ inl (ap OfSlot e) | inr ne ↦ inr (λ e. ne (let q : s ≡ slot = cc in q)) ]
of_slot Whole slot = inr (λ e. cc)
of_slot Free slot = inr (λ e. cc)

pub slot_of_both : (a b : PartOrder) → have_slot a b ≡ true → (slot : ℕ) × (a ≡ OfSlot slot) × (b ≡ OfSlot slot)
slot_of_both (OfSlot s) (OfSlot t) e = let q : s ≡ t = grind (arith, nat_tests) in (s, refl, ap OfSlot (sym q))
slot_of_both (OfSlot s) Whole e = absurd (cc)
slot_of_both (OfSlot s) Free e = absurd (cc)
slot_of_both Whole b e = absurd (cc)
slot_of_both Free b e = absurd (cc)

same_slots : (s : ℕ) → have_slot (OfSlot s) (OfSlot s) ≡ true
same_slots s = grind (arith, nat_tests)

pub both_of_slot : (a b : PartOrder) (slot : ℕ) → a ≡ OfSlot slot → b ≡ OfSlot slot → have_slot a b ≡ true
both_of_slot a b slot p q = ap (λ x. have_slot x b) p ∙ ap (have_slot (OfSlot slot)) q ∙ same_slots slot

-- ---- parts keep what never changes

pub sorted_kept : (old new : Order) → IsSorted old
    → ((at : ℕ) (p : OrderedPart) → ordered_at at new ≡ Some p → (q : OrderedPart) × (ordered_at at old ≡ Some q) × (q.seat ≡ p.seat) × (q.order ≡ p.order))
    → new.first + length new.parts < 2 ^ 64 → IsSorted new
sorted_kept old new s was fits = record {
  calls = λ at after p q lt ep eq.
      let a = was at p ep in let b = was after q eq in
      let h = s.calls at after a.0 b.0 lt a.1 b.1 in
      subst (λ (x : Seat). x.call ≤ q.seat.call) a.2 (subst (λ (y : Seat). a.0.seat.call ≤ y.call) b.2 h);
  slots = λ at after p q lt ep eq same.
      let a = was at p ep in let b = was after q eq in
      let h = s.slots at after a.0 b.0 lt a.1 b.1 (ap (λ x. have_slot x b.0.order) a.3 ∙ ap (have_slot p.order) b.3 ∙ same) in
      subst (λ (x : Seat). x.call < q.seat.call) a.2 (subst (λ (y : Seat). a.0.seat.call < y.call) b.2 h);
  no_free = λ at p e free. let a = was at p e in s.no_free at a.0 a.1 (a.3 ∙ free);
  fits = fits;
}

-- ---- the statuses of a slot

in_other : (slot : ℕ) (o : PartOrder) (s : Status) → (o ≡ OfSlot slot → ⊥) → status_in slot o s ≡ None
in_other slot (OfSlot t) s ne = elim (same_place slot t) [ inl e ↦ absurd (ne (ap OfSlot (sym e.0))) | inr apart ↦ rw apart.1 refl ]
in_other slot Whole s ne = refl
in_other slot Free s ne = refl

in_own : (slot : ℕ) (s : Status) → status_in slot (OfSlot slot) s ≡ Some s
in_own slot s = elim (same_place slot slot) [ inl e ↦ rw e.1 refl | inr apart ↦ absurd (apart.0 refl) ]

in_here : (slot : ℕ) (o : PartOrder) (s : Status) → o ≡ OfSlot slot → status_in slot o s ≡ Some s
in_here slot o s e = ap (λ x. status_in slot x s) e ∙ in_own slot s

in_part : (slot : ℕ) (o : PartOrder) (s x : Status) → status_in slot o s ≡ Some x → (o ≡ OfSlot slot) × (s ≡ x)
in_part slot (OfSlot t) s x h = elim (same_place slot t) [
  | inl e ↦ (ap OfSlot (sym e.0), same_Some s x (rw e.1 at h))
  | inr apart ↦ let z : ◌≡◌ {A = Option Status} None (Some x) = rw apart.1 at h in absurd (cc)
]
in_part slot Whole s x h = absurd (cc)
in_part slot Free s x h = absurd (cc)

seen_part : (slot : ℕ) (o : Option OrderedPart) (s : Status) → seen slot o ≡ Some s → (p : OrderedPart) × (o ≡ Some p) × (p.order ≡ OfSlot slot) × (p.status ≡ s)
seen_part slot None s h = absurd (cc)
seen_part slot (Some p) s h = let w = in_part slot p.order p.status s h in (p, refl, w.0, w.1)

-- what a status of a slot says of the part, and the other way round
pub status_part : (slot place : ℕ) (order : Order) (s : Status) → statuses slot order place ≡ Some s → (p : OrderedPart) × (ordered_at place order ≡ Some p) × (p.order ≡ OfSlot slot) × (p.status ≡ s)
status_part slot place order s e = seen_part slot (ordered_at place order) s e

pub part_status : (slot place : ℕ) (order : Order) (p : OrderedPart) → ordered_at place order ≡ Some p → p.order ≡ OfSlot slot → statuses slot order place ≡ Some p.status
part_status slot place order p e is = ap (seen slot) e ∙ in_here slot p.order p.status is

open_done : (s : Status) → is_done s ≡ true → IsOpen (Some s) → ⊥
open_done Waits d o = cc
open_done (Asked link) d o = cc
open_done Settled d o = o
open_done Unsent d o = o

done_closed : (slot : ℕ) (o : PartOrder) (s : Status) → is_done s ≡ true → IsOpen (status_in slot o s) → ⊥
done_closed slot (OfSlot t) s d h = elim (same_place slot t) [ inl e ↦ open_done s d (rw e.1 at h) | inr apart ↦ rw apart.1 at h ]
done_closed slot Whole s d h = h
done_closed slot Free s d h = h

-- ---- bars

in_left : (q place : ℕ) (s : Status) (bars : List ℕ) → In q (left place s bars) → In q bars × (is_done s ≡ true → q ≢ place)
in_left q place Waits bars h = (h, λ e. absurd (cc))
in_left q place (Asked link) bars h = (h, λ e. absurd (cc))
in_left q place Settled bars h = let w = in_without q place bars h in (w.1, λ e. w.0)
in_left q place Unsent bars h = let w = in_without q place bars h in (w.1, λ e. w.0)

left_in : (q place : ℕ) (s : Status) (bars : List ℕ) → In q bars → (is_done s ≡ true → q ≢ place) → In q (left place s bars)
left_in q place Waits bars h ne = h
left_in q place (Asked link) bars h ne = h
left_in q place Settled bars h ne = without_in q place bars (ne refl) h
left_in q place Unsent bars h ne = without_in q place bars (ne refl) h

pub none_left : (place : ℕ) (s : Status) (bars : List ℕ) → length bars ≡ 0 → bars ≡ left place s bars
none_left place s [] none = elim (bool_cases (is_done s)) [ inl done ↦ rw done refl | inr undone ↦ rw undone refl ]
none_left place s (x ∷ xs) none = absurd (omega arith)

ascends_left : (place : ℕ) (s : Status) (bars : List ℕ) → Ascends bars → Ascends (left place s bars)
ascends_left place Waits bars a = a
ascends_left place (Asked link) bars a = a
ascends_left place Settled bars a = ascends_without place bars a
ascends_left place Unsent bars a = ascends_without place bars a

in_entered : (q place : ℕ) (of : PartOrder) (bars : List ℕ) → In q (entered of place bars) → ((place ≡ q) × (of ≡ Whole)) ⊎ In q bars
in_entered q place (OfSlot slot) bars h = inr h
in_entered q place Whole bars h = elim (in_pushed q place bars h) [ inl e ↦ inl (e, refl) | inr i ↦ inr i ]
in_entered q place Free bars h = inr h

entered_in : (q place : ℕ) (of : PartOrder) (bars : List ℕ) → ((place ≡ q) × (of ≡ Whole)) ⊎ In q bars → In q (entered of place bars)
entered_in q place (OfSlot slot) bars h = elim h [ inl e ↦ absurd (cc) | inr i ↦ i ]
entered_in q place Whole bars h = pushed_in q place bars (elim h [ inl e ↦ inl e.0 | inr i ↦ inr i ])
entered_in q place Free bars h = elim h [ inl e ↦ absurd (cc) | inr i ↦ i ]

ascends_entered : (place : ℕ) (of : PartOrder) (bars : List ℕ) → Ascends bars → ((q : ℕ) → In q bars → q < place) → Ascends (entered of place bars)
ascends_entered place (OfSlot slot) bars a top = a
ascends_entered place Whole bars a top = ascends_pushed place bars a top
ascends_entered place Free bars a top = a

-- ---- a status changes

pub may_undone : (place : ℕ) (s : Status) (order : Order) (p : OrderedPart) → MayChange place s order → ordered_at place order ≡ Some p → is_done p.status ≡ false
may_undone place Waits order p may e = ap (λ (x : OrderedPart). is_done x.status) (same_Some p may.0 (sym e ∙ may.2)) ∙ ap is_done may.3
may_undone place (Asked link) order p may e = ap (λ (x : OrderedPart). is_done x.status) (same_Some p may.it (sym e ∙ may.there)) ∙ ap is_done may.waits
may_undone place Settled order p may e = ap (λ (x : OrderedPart). is_done x.status) (same_Some p may.0 (sym e ∙ may.2)) ∙ ap is_done may.3
may_undone place Unsent order p may e = ap (λ (x : OrderedPart). is_done x.status) (same_Some p may.0 (sym e ∙ may.1)) ∙ ap is_done may.2

pub changes_there : (place : ℕ) (s : Status) (order : Order) → MayChange place s order → (p : OrderedPart) × (ordered_at place order ≡ Some p)
changes_there place Waits order may = (may.0, may.2)
changes_there place (Asked link) order may = (may.it, may.there)
changes_there place Settled order may = (may.0, may.2)
changes_there place Unsent order may = (may.0, may.1)

undone_twice : (s : Status) → is_done s ≡ true → is_done s ≡ false → ⊥
undone_twice s t f = let q : true ≡ false = sym t ∙ f in cc

asked_undone : (link : ℕ) (p : OrderedPart) → p.status ≡ Asked link → is_done p.status ≡ true → ⊥
asked_undone link p e d = undone_twice p.status d (ap is_done e)

asked_effective : (link : ℕ) (p : OrderedPart) → p.status ≡ Asked link → is_effective p.status ≡ false → ⊥
asked_effective link p e f = let q : true ≡ false = ap is_effective (sym e) ∙ f in cc

-- the other parts of its slot that are on their way, if one may be asked
pub others_ahead : (order : Order) (place link slot q other : ℕ) → IsSorted order → (m : MayAskAmong have_slot place link order) → m.it.order ≡ OfSlot slot
    → statuses slot order q ≡ Some (Asked other) → (other ≡ link) × (q < place)
others_ahead order place link slot q other s m is e =
    let p = status_part slot q order (Asked other) e in
    elim (cases_lt q place) [
      | inl lt ↦
          let same = both_of_slot p.0.order m.it.order slot p.2 is in
          elim (m.earlier q p.0 p.1 (s.slots q place p.0 m.it lt p.1 m.there same) same) [
            | inl done ↦ absurd (asked_undone other p.0 p.3 done)
            | inr on ↦ (let z : Asked other ≡ Asked link = sym p.3 ∙ on.1 in (let w : other ≡ link = cc in w), lt)
          ]
      | inr ge ↦ elim (cases_eq q place) [
        | inl same ↦
            let it : p.0 ≡ m.it = same_Some p.0 m.it (sym p.1 ∙ ap (λ n. ordered_at n order) same ∙ m.there) in
            let z : Asked other ≡ Waits = sym p.3 ∙ ap (λ (x : OrderedPart). x.status) it ∙ m.waits in absurd (cc)
        | inr ne ↦
            let same = both_of_slot m.it.order p.0.order slot is p.2 in
            absurd (asked_effective other p.0 p.3 (m.later q p.0 p.1 (s.slots place q m.it p.0 (omega arith) m.there p.1 same) same))
      ]
    ]

-- none that waits is before it
pub none_before : (order : Order) (place link slot q : ℕ) → IsSorted order → (m : MayAskAmong have_slot place link order) → m.it.order ≡ OfSlot slot → statuses slot order q ≡ Some Waits → place ≤ q
none_before order place link slot q s m is e =
    let p = status_part slot q order Waits e in
    elim (cases_lt q place) [
      | inl lt ↦
          let same = both_of_slot p.0.order m.it.order slot p.2 is in
          elim (m.earlier q p.0 p.1 (s.slots q place p.0 m.it lt p.1 m.there same) same) [
            | inl done ↦ absurd (undone_twice p.0.status done (ap is_done p.3))
            | inr on ↦ let z : Waits ≡ Asked link = sym p.3 ∙ on.1 in absurd (cc)
          ]
      | inr ge ↦ ge
    ]

moves : (order : Order) (place slot : ℕ) (s : Status) (p : OrderedPart) → IsSorted order → ordered_at place order ≡ Some p → p.order ≡ OfSlot slot → MayChange place s order → MayMove (statuses slot order) place s
moves order place slot Waits p sorted e is may = (may.1, part_status slot place order p e is ∙ ap (λ (x : OrderedPart). Some x.status) (same_Some p may.0 (sym e ∙ may.2)) ∙ ap (λ s. Some s) may.3)
moves order place slot (Asked link) p sorted e is may =
    let same = same_Some p may.it (sym e ∙ may.there) in
    let of : may.it.order ≡ OfSlot slot = ap (λ (x : OrderedPart). x.order) (sym same) ∙ is in
    (part_status slot place order may.it may.there of ∙ ap (λ s. Some s) may.waits, λ q other a. others_ahead order place link slot q other sorted may of a, λ q w. none_before order place link slot q sorted may of w)
moves order place slot Settled p sorted e is may = (may.1, part_status slot place order p e is ∙ ap (λ (x : OrderedPart). Some x.status) (same_Some p may.0 (sym e ∙ may.2)) ∙ ap (λ s. Some s) may.3)
moves order place slot Unsent p sorted e is may = part_status slot place order p e is ∙ ap (λ (x : OrderedPart). Some x.status) (same_Some p may.0 (sym e ∙ may.1)) ∙ ap (λ s. Some s) may.2

-- so the lane of its slot may take the step
pub becomes : (order : Order) (lanes : Lanes) (bars : List ℕ) (place slot : ℕ) (s : Status) (p : OrderedPart) → IsTied order lanes bars → ordered_at place order ≡ Some p → p.order ≡ OfSlot slot → MayChange place s order
    → lane.MayBecome place s (lane_of slot lanes)
becomes order lanes bars place slot s p t e is may =
    let w = at_within place order.first order.parts p e in
    may_become order.first place s (statuses slot order) (lane_of slot lanes) (t.lane slot) (moves order place slot s p t.sorted e is may) (omega (arith, w.1, t.sorted.fits))

-- a lane that took a step, or is gone since it is empty
stepped_lane : (first slot : ℕ) (step : lane.Lane → lane.Lane) (new : ℕ → Option Status) (lanes changed : Lanes) → IsLaneOf first new (step (lane_of slot lanes))
    → (lane_of slot changed ≡ step (lane_of slot lanes)) ⊎ ((lane_of slot changed ≡ lane.no_lane) × IsEmpty (step (lane_of slot lanes))) → IsLaneOf first new (lane_of slot changed)
stepped_lane first slot step new lanes changed l h = elim h [
  | inl e ↦ subst (IsLaneOf first new) (sym e) l
  | inr f ↦ subst (IsLaneOf first new) (sym f.0) (lane_freed first new (step (lane_of slot lanes)) l f.1.0 f.1.1)
]

pub tied_changed : (order : Order) (lanes changed : Lanes) (bars : List ℕ) (place : ℕ) (s : Status) (p : OrderedPart) → IsTied order lanes bars → ordered_at place order ≡ Some p → MayChange place s order
    → Stepped p.order (lane.with_status place s) lanes changed → IsTied (with_status place s order) changed (left place s bars)
tied_changed order lanes changed bars place s p t e may step =
    let w = at_within place order.first order.parts p e in
    let many = length-changed (λ (part : OrderedPart). record part { status = s }) (place - order.first) order.parts in
    let here : ordered_at place (with_status place s order) ≡ Some (record p { status = s }) = changed_same (λ (part : OrderedPart). record part { status = s }) place order.first order.parts p e in
    let other : (q : ℕ) → q ≢ place → ordered_at q (with_status place s order) ≡ ordered_at q order = λ q ne. changed_other (λ (part : OrderedPart). record part { status = s }) place q order.first order.parts w.0 ne in
    let undone = may_undone place s order p may e in
    record {
      sorted = sorted_kept order (with_status place s order) t.sorted (λ at q eq. elim (cases_eq at place) [
        | inl same ↦ let is : record p { status = s } ≡ q = same_Some (record p { status = s }) q (sym here ∙ ap (λ n. ordered_at n (with_status place s order)) (sym same) ∙ eq) in
            (p, subst (λ (n : ℕ). ordered_at n order ≡ Some p) (sym same) e, ap (λ (x : OrderedPart). x.seat) is, ap (λ (x : OrderedPart). x.order) is)
        | inr ne ↦ (q, sym (other at ne) ∙ eq, refl, refl)
      ]) (omega (arith, many, t.sorted.fits));
      lane = λ slot. elim (of_slot p.order slot) [
        | inl is ↦ stepped_lane order.first slot (lane.with_status place s) (statuses slot (with_status place s order)) lanes changed
            (lane_changed order.first place s (statuses slot order) (statuses slot (with_status place s order)) (lane_of slot lanes) (t.lane slot) (moves order place slot s p t.sorted e is may)
            (part_status slot place (with_status place s order) (record p { status = s }) here is) (λ q ne. ap (seen slot) (other q ne)))
            (step.here slot is)
        | inr not ↦ subst (IsLaneOf order.first (statuses slot (with_status place s order))) (sym (step.others slot not))
            (lane_same order.first (statuses slot order) (statuses slot (with_status place s order)) (lane_of slot lanes) (t.lane slot) (λ q. elim (cases_eq q place) [
              | inl same ↦ subst (λ (n : ℕ). statuses slot (with_status place s order) n ≡ statuses slot order n) (sym same)
                  (ap (seen slot) here ∙ in_other slot p.order s not ∙ sym (ap (seen slot) e ∙ in_other slot p.order p.status not))
              | inr ne ↦ ap (seen slot) (other q ne)
            ]))
      ];
      bar_in = λ q h.
          let w = in_left q place s bars h in
          let bar = t.bar_in q w.0 in
          elim (cases_eq q place) [
            | inl same ↦
                let is : bar.0 ≡ p = same_Some bar.0 p (sym bar.1 ∙ ap (λ n. ordered_at n order) same ∙ e) in (
                  record p { status = s },
                  ap (λ n. ordered_at n (with_status place s order)) same ∙ here,
                  ap (λ (x : OrderedPart). x.order) (sym is) ∙ bar.2,
                  elim (bool_cases (is_done s)) [ inl done ↦ absurd (w.1 done same) | inr not ↦ not ],
                )
            | inr ne ↦ (bar.0, other q ne ∙ bar.1, bar.2, bar.3)
          ];
      bar_there = λ q bar. elim (cases_eq q place) [
        | inl same ↦
            let is : record p { status = s } ≡ bar.0 = same_Some (record p { status = s }) bar.0 (sym here ∙ ap (λ n. ordered_at n (with_status place s order)) (sym same) ∙ bar.1) in
            let there = t.bar_there q (p, ap (λ n. ordered_at n order) same ∙ e, ap (λ (x : OrderedPart). x.order) is ∙ bar.2, undone) in
            left_in q place s bars there (λ done. absurd (undone_twice s done (ap (λ (x : OrderedPart). is_done x.status) is ∙ bar.3)))
        | inr ne ↦ left_in q place s bars (t.bar_there q (bar.0, sym (other q ne) ∙ bar.1, bar.2, bar.3)) (λ done. ne)
      ];
      ascends = ascends_left place s bars t.ascends;
    }

-- ---- a part that is done is forgotten, at the front or at the end

pub tied_gone : (order new : Order) (lanes : Lanes) (bars : List ℕ) (place : ℕ) (p : OrderedPart) → IsTied order lanes bars → ordered_at place order ≡ Some p → is_done p.status ≡ true
    → ordered_at place new ≡ None → ((q : ℕ) → q ≢ place → ordered_at q new ≡ ordered_at q order) → order.first ≤ new.first → (new.first ≤ place → p.status ≡ Settled → ⊥)
    → new.first + length new.parts < 2 ^ 64 → IsTied new lanes bars
tied_gone order new lanes bars place p t e done gone other later not fits =
    let apart : (q : ℕ) (x : OrderedPart) → ordered_at q new ≡ Some x → q ≢ place = λ q x ex same. (let z : ◌≡◌ {A = Option OrderedPart} None (Some x) = sym gone ∙ ap (λ n. ordered_at n new) (sym same) ∙ ex in cc) in
    record {
      sorted = sorted_kept order new t.sorted (λ at q eq. (q, sym (other at (apart at q eq)) ∙ eq, refl, refl)) fits;
      lane = λ slot. lane_gone order.first new.first place (statuses slot order) (statuses slot new) (lane_of slot lanes) (t.lane slot)
          (λ o. done_closed slot p.order p.status done (subst IsOpen (ap (seen slot) e) o)) later
          (λ le s. let x = status_part slot place order Settled s in not le (ap (λ (y : OrderedPart). y.status) (same_Some p x.0 (sym e ∙ x.1)) ∙ x.3))
          (ap (seen slot) gone) (λ q ne. ap (seen slot) (other q ne));
      bar_in = λ q h.
          let bar = t.bar_in q h in
          let ne : q ≢ place = λ same. undone_twice p.status done (ap (λ (x : OrderedPart). is_done x.status) (same_Some p bar.0 (sym e ∙ ap (λ n. ordered_at n order) (sym same) ∙ bar.1)) ∙ bar.3) in
          (bar.0, other q ne ∙ bar.1, bar.2, bar.3);
      bar_there = λ q bar. t.bar_there q (bar.0, sym (other q (apart q bar.0 bar.1)) ∙ bar.1, bar.2, bar.3);
      ascends = t.ascends;
    }

pub tied_forgot : (order : Order) (lanes : Lanes) (bars : List ℕ) (p : OrderedPart) → IsTied order lanes bars → ordered_at order.first order ≡ Some p → is_done p.status ≡ true → IsTied (without_first order) lanes bars
tied_forgot order lanes bars p t e done =
    let w = at_within order.first order.first order.parts p e in
    let many = length-drop 1 order.parts in
    tied_gone order (without_first order) lanes bars order.first p t e done
    (at_below order.first (order.first + 1) (drop 1 order.parts) (omega arith))
    (λ q ne. dropped_other q order.first order.parts ne)
    (omega arith)
    (λ le s. omega (arith, le))
    (omega (arith, many, w.1, t.sorted.fits))

-- the last part, which waits, is taken back
pub tied_left : (order : Order) (lanes changed : Lanes) (bars : List ℕ) (place : ℕ) (p : OrderedPart) → IsTied order lanes bars → place + 1 ≡ order.first + length order.parts → ordered_at place order ≡ Some p → p.status ≡ Waits
    → Stepped p.order (lane.with_status place Unsent) lanes changed → IsTied (without_last order) changed (left place Unsent bars)
tied_left order lanes changed bars place p t end e waits step =
    let w = at_within place order.first order.parts p e in
    let some : 0 < length order.parts = omega (arith, w.0, w.1) in
    let many = length-take (length order.parts - 1) order.parts in
    tied_gone (with_status place Unsent order) (without_last order) changed (left place Unsent bars) place (record p { status = Unsent })
    (tied_changed order lanes changed bars place Unsent p t e (p, e, waits) step)
    (changed_same (λ (part : OrderedPart). record part { status = Unsent }) place order.first order.parts p e) refl
    (left_last place order.first order.parts end)
    (λ q ne.
    let apart : q + 1 ≢ order.first + length order.parts = omega (arith, ne, end) in
    left_other q order.first order.parts apart some ∙ sym (changed_other (λ (part : OrderedPart). record part { status = Unsent }) place q order.first order.parts w.0 ne))
    (omega arith)
    (λ le s. cc)
    (omega (arith, many, w.1, t.sorted.fits))

-- the same lanes in another map
pub tied_same : (order : Order) (lanes changed : Lanes) (bars : List ℕ) → IsTied order lanes bars → AreSame lanes changed → IsTied order changed bars
tied_same order lanes changed bars t same = record {
  sorted = t.sorted;
  lane = λ slot. subst (IsLaneOf order.first (statuses slot order)) (sym (same slot)) (t.lane slot);
  bar_in = t.bar_in;
  bar_there = t.bar_there;
  ascends = t.ascends;
}

-- ---- a part joins

pub joins_last : (order : Order) (lanes : Lanes) (bars : List ℕ) (slot : ℕ) → IsTied order lanes bars → lane.MayJoin (order.first + length order.parts) (lane_of slot lanes)
joins_last order lanes bars slot t q h =
    let there : (s : Status) × (statuses slot order q ≡ Some s) = elim h [ inl w ↦ (Waits, (t.lane slot).waiting_in q w) | inr a ↦ (Asked (lane_of slot lanes).link, (t.lane slot).asked_in q a) ] in
    let p = status_part slot q order there.0 there.1 in
    (at_within q order.first order.parts p.0 p.1).1

pub tied_pushed : (order : Order) (lanes changed : Lanes) (bars : List ℕ) (seat : Seat) (of : PartOrder) → IsTied order lanes bars → MayFollow seat.call of order
    → order.first + length order.parts + 1 < 2 ^ 64 → Stepped of (lane.joined (order.first + length order.parts)) lanes changed
    → IsTied (pushed seat of order) changed (entered of (order.first + length order.parts) bars)
tied_pushed order lanes changed bars seat of t may bound step =
    let part : OrderedPart = record { seat = seat; order = of; status = Waits } in
    let here : ordered_at (order.first + length order.parts) (pushed seat of order) ≡ Some part = pushed_last order.first order.parts part in
    let other : (q : ℕ) → q ≢ order.first + length order.parts → ordered_at q (pushed seat of order) ≡ ordered_at q order = λ q ne. pushed_other q order.first order.parts part ne in
    let none : ordered_at (order.first + length order.parts) order ≡ None = at_past (order.first + length order.parts) order.first order.parts (omega arith) in
    record {
      sorted = sorted_pushed order seat of t.sorted may bound;
      lane = λ slot. elim (of_slot of slot) [
        | inl is ↦ stepped_lane order.first slot (lane.joined (order.first + length order.parts)) (statuses slot (pushed seat of order)) lanes changed
            (lane_joined order.first (order.first + length order.parts) (statuses slot order) (statuses slot (pushed seat of order)) (lane_of slot lanes) (t.lane slot)
            (λ q s e. let p = status_part slot q order s e in (at_within q order.first order.parts p.0 p.1).1)
            (part_status slot (order.first + length order.parts) (pushed seat of order) part here is) (λ q ne. ap (seen slot) (other q ne)))
            (step.here slot is)
        | inr not ↦ subst (IsLaneOf order.first (statuses slot (pushed seat of order))) (sym (step.others slot not))
            (lane_same order.first (statuses slot order) (statuses slot (pushed seat of order)) (lane_of slot lanes) (t.lane slot) (λ q. elim (cases_eq q (order.first + length order.parts)) [
              | inl same ↦ subst (λ (n : ℕ). statuses slot (pushed seat of order) n ≡ statuses slot order n) (sym same) (ap (seen slot) here ∙ in_other slot of Waits not ∙ sym (ap (seen slot) none))
              | inr ne ↦ ap (seen slot) (other q ne)
            ]))
      ];
      bar_in = λ q h. elim (in_entered q (order.first + length order.parts) of bars h) [
        | inl e ↦ (part, ap (λ n. ordered_at n (pushed seat of order)) (sym e.0) ∙ here, e.1, refl)
        | inr i ↦
            let bar = t.bar_in q i in
            let b = at_within q order.first order.parts bar.0 bar.1 in
            (bar.0, other q (omega (arith, b.1)) ∙ bar.1, bar.2, bar.3)
      ];
      bar_there = λ q bar. entered_in q (order.first + length order.parts) of bars (elim (pushed_cases order seat of q bar.0 bar.1) [
        | inl new ↦ inl (sym new.0, new.2 ∙ bar.2)
        | inr old ↦ inr (t.bar_there q (bar.0, old.1, bar.2, bar.3))
      ]);
      ascends = ascends_entered (order.first + length order.parts) of bars t.ascends (λ q h. let bar = t.bar_in q h in (at_within q order.first order.parts bar.0 bar.1).1);
    }
  where
    pushed_cases : (order : Order) (seat : Seat) (of : PartOrder) (at : ℕ) (p : OrderedPart) → ordered_at at (pushed seat of order) ≡ Some p
        → ((at ≡ order.first + length order.parts) × (seat ≡ p.seat) × (of ≡ p.order)) ⊎ ((at < order.first + length order.parts) × (ordered_at at order ≡ Some p))
    pushed_cases order seat of at p e =
        let part : OrderedPart = record { seat = seat; order = of; status = Waits } in
        elim (cases_eq at (order.first + length order.parts)) [
          | inl same ↦ let is : part ≡ p = same_Some part p (sym (pushed_last order.first order.parts part) ∙ ap (λ n. ordered_at n (pushed seat of order)) (sym same) ∙ e) in
              inl (same, ap (λ (x : OrderedPart). x.seat) is, ap (λ (x : OrderedPart). x.order) is)
          | inr ne ↦ let old = sym (pushed_other at order.first order.parts part ne) ∙ e in
              inr ((at_within at order.first order.parts p old).1, old)
        ]

    sorted_pushed : (order : Order) (seat : Seat) (of : PartOrder) → IsSorted order → MayFollow seat.call of order → order.first + length order.parts + 1 < 2 ^ 64 → IsSorted (pushed seat of order)
    sorted_pushed order seat of s may bound = record {
      calls = λ at after p q lt ep eq. elim (pushed_cases order seat of after q eq) [
        | inl b ↦ elim (pushed_cases order seat of at p ep) [
          | inl a ↦ absurd (omega (arith, a.0, b.0, lt))
          | inr a ↦ subst (λ (x : Seat). p.seat.call ≤ x.call) b.1 (may.later at p a.1)
        ]
        | inr b ↦ elim (pushed_cases order seat of at p ep) [
          | inl a ↦ absurd (omega (arith, a.0, b.0, lt))
          | inr a ↦ s.calls at after p q lt a.1 b.1
        ]
      ];
      slots = λ at after p q lt ep eq same. elim (pushed_cases order seat of after q eq) [
        | inl b ↦ elim (pushed_cases order seat of at p ep) [
          | inl a ↦ absurd (omega (arith, a.0, b.0, lt))
          | inr a ↦ subst (λ (x : Seat). p.seat.call < x.call) b.1 (may.apart at p a.1 (ap (have_slot p.order) b.2 ∙ same))
        ]
        | inr b ↦ elim (pushed_cases order seat of at p ep) [
          | inl a ↦ absurd (omega (arith, a.0, b.0, lt))
          | inr a ↦ s.slots at after p q lt a.1 b.1 same
        ]
      ];
      no_free = λ at p e free. elim (pushed_cases order seat of at p e) [
        | inl a ↦ may.not_free (a.2 ∙ free)
        | inr a ↦ s.no_free at p a.1 free
      ];
      fits = let many = length-append order.parts (record { seat = seat; order = of; status = Waits } ∷ []) in omega (arith, many, bound);
    }
