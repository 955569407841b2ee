-- When a part may be asked: by the state of the session, and by the order of its caller.
use Rattle.std.proofs.Common.{◌≡◌, ◌<◌, ◌≤◌, ◌+◌, ◌&&◌, ◌||◌, inl, inr, ℕ, Bool, true, false, List, Some, refl, sym, ap, ◌∙◌, subst, arith}
use Rattle.std.proofs.lemmas.Option.{same_Some}
use Rattle.std.proofs.lemmas.Bool.{false≢true, cases_lt, or_cases}
use Rattle.resp_core.proofs.Cases.{and_first, and_second}
use Rattle.session_core.specs.declared.ordered_part.OrderedPart.{OrderedPart}
use Rattle.session_core.specs.declared.ordered_part.Seat.{Seat}
use Rattle.session_core.specs.Order.{Order, ordered_at, is_done, is_effective, LetsBy, NamesWaiting, IsWaiting, IsOnItsWay, IsOvertaken}
use Rattle.session_core.specs.Order as order
use Rattle.session_core.specs.Part.{PartState, is_waiting, is_on, have_slot, have_order}
use Rattle.session_core.specs.Part.{is_done as part_done, is_effective as part_effective}
use Rattle.session_core.specs.State.{State, MayAsk, Has, IsPassed, lets_by}
use Rattle.session_core.proofs.Places.{at_within}
use Rattle.session_machine.specs.Ties.{AreTied, is_ordered, ordered_part}
use Rattle.session_machine.proofs.Ties.Parts.{done_status, effective_status, waiting_status, status_waiting, on_status, status_on, settled_status, waiting_undone, ordered_first, ordered_second, one_part, one_caller}

-- ---- where a part stands

-- a part that is not done stands in the order of its caller
pub not_passed : {s : State} {places : ℕ → ℕ} {orders : ℕ → Order} {caller call part : ℕ} {p : PartState} → AreTied s places orders → Has s caller call part p → is_ordered p.order ≡ true
    → part_done p.phase ≡ false → (orders caller).first ≤ places call + part
not_passed {places = places} {orders = orders} {caller = caller} {call = call} {part = part} {p = p} t has o undone = elim (cases_lt (places call + part) (orders caller).first) [
  | inl gone ↦ absurd (false≢true (sym undone ∙ t.forgotten caller call part p has o gone))
  | inr here ↦ here
]

pub stands_there : {s : State} {places : ℕ → ℕ} {orders : ℕ → Order} {caller call part : ℕ} {p : PartState} → AreTied s places orders → Has s caller call part p → is_ordered p.order ≡ true
    → part_done p.phase ≡ false → ordered_at (places call + part) (orders caller) ≡ Some (ordered_part call part p)
stands_there {caller = caller} {call = call} {part = part} {p = p} t has o undone = t.stands caller call part p has o (not_passed t has o undone)

pub stands_waiting : {s : State} {places : ℕ → ℕ} {orders : ℕ → Order} {caller call part : ℕ} {p : PartState} → AreTied s places orders → Has s caller call part p → is_ordered p.order ≡ true
    → is_waiting p.phase ≡ true → IsWaiting (places call + part) (orders caller)
stands_waiting {call = call} {part = part} {p = p} t has o waits = (ordered_part call part p, stands_there t has o (waiting_undone p.phase waits), status_waiting p.phase waits)

-- the part that an order names is there, and waits
pub record IsNamed (s : State) (places : ℕ → ℕ) (caller at : ℕ) (seat : Seat) : Type 0 where
  pub it : PartState
  pub has : Has s caller seat.call seat.part it
  pub ordered : is_ordered it.order ≡ true
  pub place : at ≡ places seat.call + seat.part
  pub waits : is_waiting it.phase ≡ true

pub named_part : {s : State} {places : ℕ → ℕ} {orders : ℕ → Order} (caller at : ℕ) (seat : Seat) → AreTied s places orders → NamesWaiting at seat (orders caller) → IsNamed s places caller at seat
named_part {s = s} {places = places} caller at seat t names =
    let c = t.comes caller at names.0 names.1 in
    subst (IsNamed s places caller at) names.2 (record {
      it = c.0;
      has = c.1;
      ordered = c.3;
      place = c.4;
      waits = waiting_status c.0.phase (ap (λ (x : OrderedPart). x.status) (sym c.2) ∙ names.3);
    })

-- ---- what may be asked

-- what the order lets be asked, may be asked
pub asks_by_order : {s : State} {places : ℕ → ℕ} {orders : ℕ → Order} {caller call part : ℕ} {p : PartState} (link : ℕ) → AreTied s places orders → (has : Has s caller call part p) → is_ordered p.order ≡ true
    → has.state.is_wanted ≡ true → order.MayAsk (places call + part) link (orders caller) → MayAsk s link call part p.request
asks_by_order {s = s} {places = places} {orders = orders} {caller = caller} {call = call} {part = part} {p = p} link t has o wanted m =
    let low = at_within (places call + part) (orders caller).first (orders caller).parts m.it m.there in
    let is : m.it ≡ ordered_part call part p = same_Some m.it (ordered_part call part p) (sym m.there ∙ t.stands caller call part p has o low.0) in
    record {
      caller = caller;
      it = p;
      has = has;
      wanted = wanted;
      waits = waiting_status p.phase (ap (λ (x : OrderedPart). x.status) (sym is) ∙ m.waits);
      request_is = refl;
      earlier = λ n q x lt own related. earlier n q x lt own related is;
      later = λ n q x gt own related. later n q x gt own related is low.0;
    }
  where
    by_done : (x : PartState) → part_done x.phase ≡ true → lets_by link p x ≡ true
    by_done x h = rw h refl

    ahead_then : (a b : Bool) → a ≡ true → b ≡ true → (d : Bool) → (d || (a && b)) ≡ true
    ahead_then a b ha hb true = refl
    ahead_then a b ha hb false = rw (ha, hb) refl

    lets : (x : PartState) (n q : ℕ) → LetsBy link (ordered_part n q x) (ordered_part call part p) → lets_by link p x ≡ true
    lets x n q by = elim by [
      | inl done ↦ by_done x (sym (done_status x.phase) ∙ done)
      | inr ahead ↦ ahead_then (have_slot x.order p.order) (is_on link x.phase) ahead.0 (on_status x.phase link ahead.1) (part_done x.phase)
    ]

    earlier : (n q : ℕ) (x : PartState) → n < call → Has s caller n q x → have_order x.order p.order ≡ true → m.it ≡ ordered_part call part p → lets_by link p x ≡ true
    earlier n q x lt own related is =
        let ordered = ordered_first x.order p.order related in
        elim (cases_lt (places n + q) (orders caller).first) [
          | inl gone ↦ by_done x (t.forgotten caller n q x own ordered gone)
          | inr here ↦
              let at = t.stands caller n q x own ordered here in
              lets x n q (subst (λ (y : OrderedPart). LetsBy link (ordered_part n q x) y) is
              (m.earlier (places n + q) (ordered_part n q x) at (subst (λ (y : OrderedPart). n < y.seat.call) (sym is) lt) (ap (λ (y : OrderedPart). have_order x.order y.order) is ∙ related)))
        ]

    later : (n q : ℕ) (x : PartState) → call < n → Has s caller n q x → have_order p.order x.order ≡ true → m.it ≡ ordered_part call part p → (orders caller).first ≤ places call + part → part_effective x.phase ≡ false
    later n q x gt own related is low =
        let ordered = ordered_second p.order x.order related in
        let more = t.rising caller call n part q p x gt has own o ordered in
        let at = t.stands caller n q x own ordered (omega (arith, more, low)) in
        sym (effective_status x.phase)
        ∙ m.later (places n + q) (ordered_part n q x) at (subst (λ (y : OrderedPart). y.seat.call < n) (sym is) gt) (ap (λ (y : OrderedPart). have_order y.order x.order) is ∙ related)

-- what may be asked, the order lets be asked
pub order_asks : {s : State} {places : ℕ → ℕ} {orders : ℕ → Order} {caller call part : ℕ} {p : PartState} {request : List ℕ} (link : ℕ) → AreTied s places orders → Has s caller call part p → is_ordered p.order ≡ true
    → MayAsk s link call part request → order.MayAsk (places call + part) link (orders caller)
order_asks {s = s} {places = places} {orders = orders} {caller = caller} {call = call} {part = part} {p = p} link t has o m =
    let is : m.it ≡ p = one_part m.has has in
    let waits : is_waiting p.phase ≡ true = ap (λ (x : PartState). is_waiting x.phase) (sym is) ∙ m.waits in
    let same : m.caller ≡ caller = one_caller m.has has in
    record {
      it = ordered_part call part p;
      there = stands_there t has o (waiting_undone p.phase waits);
      waits = status_waiting p.phase waits;
      earlier = λ at x e lt related.
          let c = t.comes caller at x e in
          let own : Has s m.caller x.seat.call x.seat.part c.0 = subst (λ n. Has s n x.seat.call x.seat.part c.0) (sym same) c.1 in
          let kin : have_order c.0.order m.it.order ≡ true = ap (λ (y : PartState). have_order c.0.order y.order) is ∙ ap (λ (y : OrderedPart). have_order y.order p.order) (sym c.2) ∙ related in
          let by : lets_by link p c.0 ≡ true = ap (λ (y : PartState). lets_by link y c.0) (sym is) ∙ m.earlier x.seat.call x.seat.part c.0 lt own kin in
          subst (λ (y : OrderedPart). LetsBy link y (ordered_part call part p)) (sym c.2) (lets x.seat.call x.seat.part c.0 by);
      later = λ at x e gt related.
          let c = t.comes caller at x e in
          let own : Has s m.caller x.seat.call x.seat.part c.0 = subst (λ n. Has s n x.seat.call x.seat.part c.0) (sym same) c.1 in
          let kin : have_order m.it.order c.0.order ≡ true = ap (λ (y : PartState). have_order y.order c.0.order) is ∙ ap (λ (y : OrderedPart). have_order p.order y.order) (sym c.2) ∙ related in
          ap (λ (y : OrderedPart). is_effective y.status) c.2 ∙ effective_status c.0.phase ∙ m.later x.seat.call x.seat.part c.0 gt own kin;
    }
  where
    lets : (n q : ℕ) (x : PartState) → lets_by link p x ≡ true → LetsBy link (ordered_part n q x) (ordered_part call part p)
    lets n q x by = elim (or_cases (part_done x.phase) (have_slot x.order p.order && is_on link x.phase) by) [
      | inl done ↦ inl (done_status x.phase ∙ done)
      | inr ahead ↦ inr (and_first _ _ ahead, status_on x.phase link (and_second _ _ ahead))
    ]

-- a part that is free of the order may be asked if it waits
pub free_asks : {s : State} {caller call part : ℕ} {p : PartState} (link : ℕ) → (has : Has s caller call part p) → is_ordered p.order ≡ false → has.state.is_wanted ≡ true → is_waiting p.phase ≡ true → MayAsk s link call part p.request
free_asks {caller = caller} {p = p} link has free wanted waits = record {
  caller = caller;
  it = p;
  has = has;
  wanted = wanted;
  waits = waits;
  request_is = refl;
  earlier = λ n q x lt own related. absurd (false≢true (sym free ∙ ordered_second x.order p.order related));
  later = λ n q x gt own related. absurd (false≢true (sym free ∙ ordered_first p.order x.order related));
}

-- ---- overtaken

-- a part that the order says is overtaken
pub record IsOvertakenPart (s : State) (places : ℕ → ℕ) (caller at : ℕ) (seat : Seat) : Type 0 where
  pub named : IsNamed s places caller at seat
  pub passed : IsPassed s seat.call seat.part

pub overtaken_part : {s : State} {places : ℕ → ℕ} {orders : ℕ → Order} (caller at : ℕ) (seat : Seat) → AreTied s places orders → IsOvertaken at (orders caller) → NamesWaiting at seat (orders caller) → IsOvertakenPart s places caller at seat
overtaken_part {s = s} {orders = orders} caller at seat t over names =
    let named = named_part caller at seat t names in
    let other = t.comes caller over.at over.other over.other_there in
    let it : over.it ≡ ordered_part seat.call seat.part named.it = same_Some over.it (ordered_part seat.call seat.part named.it)
    (sym over.there ∙ ap (λ n. ordered_at n (orders caller)) named.place ∙ stands_there t named.has named.ordered (waiting_undone named.it.phase named.waits)) in
    record {
      named = named;
      passed = record {
        caller = caller;
        it = named.it;
        has = named.has;
        later = over.other.seat.call;
        later_part = over.other.seat.part;
        other = other.0;
        has_later = other.1;
        is_later = subst (λ (y : OrderedPart). y.seat.call < over.other.seat.call) it over.is_later;
        same_slot = ap (λ (y : OrderedPart). have_slot y.order other.0.order) (sym it) ∙ ap (λ (y : OrderedPart). have_slot over.it.order y.order) (sym other.2) ∙ over.same_slot;
        settled = settled_status other.0.phase (ap (λ (y : OrderedPart). y.status) (sym other.2) ∙ over.settled);
      };
    }
