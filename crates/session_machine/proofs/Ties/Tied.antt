-- Orders stay tied to the state of the session, if they go on as its parts do.
use Rattle.std.proofs.Common.{◌≡◌, ◌≢◌, ◌<◌, ◌≤◌, ◌+◌, inl, inr, ℕ, Bool, true, false, eqb, if◌then◌else◌, [], None, Some, refl, sym, ap, ◌∙◌, subst, arith}
use Rattle.std.specs.List.{slice_get}
use Rattle.std.specs.Option.{option_map}
use Rattle.std.proofs.lemmas.Option.{same_Some}
use Rattle.std.proofs.lemmas.Bool.{false≢true, eq-eqb, cases_lt, cases_eq, cases_order}
use Rattle.std.proofs.lemmas.Bool.Decides.{nat_tests}
use Rattle.session_core.specs.declared.ordered_part.OrderedPart.{OrderedPart}
use Rattle.session_core.specs.declared.ordered_part.Status.{Status}
use Rattle.session_core.specs.Order.{Order, no_order, ordered_at, is_done}
use Rattle.session_core.specs.LinkEvents as link
use Rattle.session_core.specs.Part.{PartState}
use Rattle.session_core.specs.Part.{is_done as part_done}
use Rattle.session_core.specs.State.{CallState, State, Event, Begin, Leave, Trim, start, begun, call_at, numbered, call_after, phase_after, Has, May, after}
use Rattle.session_core.proofs.AfterEvents.{in_phase, seen, slice_get-numbered, changed_call, has_begun, not_begun, new_calls, begun_after, call_came, same_call}
use Rattle.session_core.proofs.Waiting.{same_part}
use Rattle.session_core.proofs.Places.{at_within, none_at}
use Rattle.session_machine.specs.Ties.{AreTied, OrderGoes, IsSteady, restated, keeps, gets, status_of, is_ordered, ordered_part}
use Rattle.session_machine.proofs.Ties.Parts.{done_status, done_stays, one_part, one_caller}
use Rattle.session_machine.proofs.Ties.Goes.{gets_here, gets_other, goes_same}

-- ---- a part, before an event and after it

-- A part that is there after an event which begins no call was there before.
pub record Came (e : Event) (s : State) (caller call part : ℕ) (now : PartState) : Type 0 where
  pub was : PartState
  pub has : Has s caller call part was
  pub is : now ≡ in_phase was (phase_after call part e has.state.is_wanted was)

pub part_came : {e : Event} {s : State} {caller call part : ℕ} {now : PartState} → May e s → new_calls e ≡ 0 → Has (after e s) caller call part now → Came e s caller call part now
part_came {e = e} {s = s} {caller = caller} {call = call} {part = part} {now = now} may none has =
    let bound : call < begun s = omega (arith, has_begun call (after e s) has.state has.call_is, begun_after link.May e s may, none) in
    elim (call_came link.May e call s has.state may bound has.call_is) [
      | inl c ↦
          let there = sym (c.2.parts part) ∙ has.part_is in
          elim (seen (slice_get c.0.parts part)) [
            | inl empty ↦ let no : None ≡ Some now = ap (option_map (λ p. in_phase p (phase_after call part e c.0.is_wanted p))) (sym empty) ∙ there in absurd (cc)
            | inr p ↦ record {
              was = p.0;
              has = record { state = c.0; call_is = c.1; caller_is = sym c.2.caller ∙ has.caller_is; part_is = p.1 };
              is = same_part now (in_phase p.0 (phase_after call part e c.0.is_wanted p.0)) (sym there ∙ ap (option_map (λ q. in_phase q (phase_after call part e c.0.is_wanted q))) p.1);
            }
          ]
      | inr left ↦ let no : None ≡ Some now = ap (λ (x : CallState). slice_get x.parts part) (sym left) ∙ has.part_is in absurd (cc)
    ]

-- A part that is there is there after the event.
abbrev pub Stays : (e : Event) (s : State) (caller call part : ℕ) (p : PartState) → Has s caller call part p → Type 0
Stays e s caller call part p has = Has (after e s) caller call part (in_phase p (phase_after call part e has.state.is_wanted p))

phased_part : (e : Event) (call part : ℕ) (state : CallState) (p : PartState) → slice_get state.parts part ≡ Some p
    → slice_get (numbered (λ n x. in_phase x (phase_after call n e state.is_wanted x)) 0 state.parts) part ≡ Some (in_phase p (phase_after call part e state.is_wanted p))
phased_part e call part state p is =
    let z : 0 + part ≡ part = omega arith in
    slice_get-numbered (λ n x. in_phase x (phase_after call n e state.is_wanted x)) 0 state.parts part
    ∙ ap (λ n. option_map (λ x. in_phase x (phase_after call n e state.is_wanted x)) (slice_get state.parts part)) z
    ∙ ap (option_map (λ x. in_phase x (phase_after call part e state.is_wanted x))) is

pub steady_stays : (e : Event) {s : State} {caller call part : ℕ} {p : PartState} → IsSteady e → (has : Has s caller call part p) → Stays e s caller call part p has
steady_stays (Begin n caller parts) steady has = absurd steady
steady_stays (Leave n) steady has = absurd steady
steady_stays Trim steady has = absurd steady
steady_stays e {s = s} {call = call} {part = part} {p = p} steady has = record {
  state = call_after e call has.state;
  call_is = changed_call (call_after e) s (after e s).links call has.state has.call_is;
  caller_is = has.caller_is;
  part_is = phased_part e call part has.state p has.part_is;
}

pub steady_new : (e : Event) → IsSteady e → new_calls e ≡ 0
steady_new (Begin n caller parts) steady = absurd steady
steady_new e steady = refl

-- ---- the general step

-- how the status of a part goes on with an event, as a change at its place
abbrev pub Moves : (e : Event) (s : State) (places : ℕ → ℕ) (orders : ℕ → Order) (change : ℕ → ℕ → Status → Status) → Type 0
Moves e s places orders change = (caller call part : ℕ) (p : PartState) (has : Has s caller call part p) → is_ordered p.order ≡ true → (orders caller).first ≤ places call + part
    → status_of (phase_after call part e has.state.is_wanted p) ≡ change caller (places call + part) (status_of p.phase)

-- the parts that stand in the orders are there after the event
abbrev pub AreLeft : (e : Event) (s : State) (places : ℕ → ℕ) (orders : ℕ → Order) → Type 0
AreLeft e s places orders = (caller call part : ℕ) (p : PartState) (has : Has s caller call part p) → is_ordered p.order ≡ true → (orders caller).first ≤ places call + part
    → Stays e s caller call part p has

module _ {s : State} {places : ℕ → ℕ} {orders : ℕ → Order} (e : Event) (new : ℕ → Order) (change : ℕ → ℕ → Status → Status) (t : AreTied s places orders) (may : May e s) (none : new_calls e ≡ 0)
    (left : AreLeft e s places orders) (moves : Moves e s places orders change) (goes : (caller : ℕ) → OrderGoes (change caller) (orders caller) (new caller)) where
  was_ordered : {caller call part : ℕ} {p : PartState} (c : Came e s caller call part p) → is_ordered p.order ≡ true → is_ordered c.was.order ≡ true
  was_ordered c o = ap (λ (x : PartState). is_ordered x.order) (sym c.is) ∙ o

  now_part : {caller call part : ℕ} {p : PartState} (c : Came e s caller call part p) → is_ordered p.order ≡ true → (orders caller).first ≤ places call + part
      → ordered_part call part p ≡ restated (change caller (places call + part)) (ordered_part call part c.was)
  now_part {caller = caller} {call = call} {part = part} c o low =
      ap (ordered_part call part) c.is ∙ ap (λ (st : Status). record (ordered_part call part c.was) { status = st }) (moves caller call part c.was c.has (was_ordered c o) low)

  over : (caller call part : ℕ) (p : PartState) → Has (after e s) caller call part p → is_ordered p.order ≡ true → places call + part < (new caller).first → part_done p.phase ≡ true
  over caller call part p has o lt =
      let c = part_came may none has in
      ap (λ (x : PartState). part_done x.phase) c.is
      ∙ (elim (cases_lt (places call + part) (orders caller).first) [
        | inl old ↦
            let done = t.forgotten caller call part c.was c.has (was_ordered c o) old in
            ap part_done (done_stays e call part c.has.state.is_wanted c.was done) ∙ done
        | inr low ↦
            let at = t.stands caller call part c.was c.has (was_ordered c o) low in
            sym (done_status (phase_after call part e c.has.state.is_wanted c.was)) ∙ ap is_done (moves caller call part c.was c.has (was_ordered c o) low)
            ∙ (goes caller).gone (places call + part) (ordered_part call part c.was) lt at
      ])

  there : (caller call part : ℕ) (p : PartState) → Has (after e s) caller call part p → is_ordered p.order ≡ true → (new caller).first ≤ places call + part
      → ordered_at (places call + part) (new caller) ≡ Some (ordered_part call part p)
  there caller call part p has o low =
      let c : Came e s caller call part p = part_came may none has in
      let was : (orders caller).first ≤ places call + part = omega (arith, (goes caller).first, low) in
      let at = t.stands caller call part c.was c.has (was_ordered c o) was in
      (goes caller).kept (places call + part) low ∙ ap (option_map (restated (change caller (places call + part)))) at ∙ ap Some (sym (now_part c o was))

  pub tied_step : AreTied (after e s) places new
  tied_step = record {
    forgotten = over;
    stands = there;
    comes = λ caller at x is.
        let w = at_within at (new caller).first (new caller).parts x is in
        let kept = sym ((goes caller).kept at w.0) ∙ is in
        elim (seen (ordered_at at (orders caller))) [
          | inl empty ↦ let no : None ≡ Some x = ap (option_map (restated (change caller at))) (sym empty) ∙ kept in absurd (cc)
          | inr y ↦ came caller at x y.0 y.1 (same_Some (restated (change caller at) y.0) x (ap (option_map (restated (change caller at))) (sym y.1) ∙ kept))
        ];
    rising = λ caller first second i j p q lt hp hq op oq.
        let a = part_came may none hp in
        let b = part_came may none hq in
        t.rising caller first second i j a.was b.was lt a.has b.has (was_ordered a op) (was_ordered b oq);
    alike = λ caller call i j p q hp hq.
        let a = part_came may none hp in
        let b = part_came may none hq in
        ap (λ (x : PartState). is_ordered x.order) a.is ∙ t.alike caller call i j a.was b.was a.has b.has ∙ ap (λ (x : PartState). is_ordered x.order) (sym b.is);
  }
    where
      came : (caller at : ℕ) (x y : OrderedPart) → ordered_at at (orders caller) ≡ Some y → restated (change caller at) y ≡ x
          → (p : PartState) × Has (after e s) caller x.seat.call x.seat.part p × (x ≡ ordered_part x.seat.call x.seat.part p) × (is_ordered p.order ≡ true) × (at ≡ places x.seat.call + x.seat.part)
      came caller at x y ey is = subst (λ (z : OrderedPart). (p : PartState) × Has (after e s) caller z.seat.call z.seat.part p × (z ≡ ordered_part z.seat.call z.seat.part p) × (is_ordered p.order ≡ true) × (at ≡ places z.seat.call + z.seat.part)) is
          (let c = t.comes caller at y ey in
          let w = at_within at (orders caller).first (orders caller).parts y ey in
          let low : (orders caller).first ≤ places y.seat.call + y.seat.part = omega (arith, w.0, c.4) in
          let stays = left caller y.seat.call y.seat.part c.0 c.1 c.3 low in
          let moved : change caller at y.status ≡ status_of (phase_after y.seat.call y.seat.part e c.1.state.is_wanted c.0) =
          ap (λ n. change caller n y.status) c.4 ∙ ap (λ (z : OrderedPart). change caller (places y.seat.call + y.seat.part) z.status) c.2 ∙ sym (moves caller y.seat.call y.seat.part c.0 c.1 c.3 low) in (
            in_phase c.0 (phase_after y.seat.call y.seat.part e c.1.state.is_wanted c.0),
            stays,
            ap (λ (z : OrderedPart). record z { seat = y.seat; status = change caller at y.status }) c.2 ∙ ap (λ (st : Status). record (ordered_part y.seat.call y.seat.part c.0) { status = st }) moved,
            c.3,
            c.4,
          ))

-- An event that changes no more than phases: each order goes on as the phases do.
pub tied_after : {s : State} {places : ℕ → ℕ} {orders : ℕ → Order} (e : Event) (new : ℕ → Order) (change : ℕ → ℕ → Status → Status) → AreTied s places orders → May e s → IsSteady e
    → Moves e s places orders change → ((caller : ℕ) → OrderGoes (change caller) (orders caller) (new caller)) → AreTied (after e s) places new
tied_after e new change t may steady moves goes = tied_step e new change t may (steady_new e steady) (λ caller call part p has o low. steady_stays e steady has) moves goes

-- the order of one caller goes on, those of others stay
pub tied_caller : {s : State} {places : ℕ → ℕ} {orders : ℕ → Order} (e : Event) (new : ℕ → Order) (caller : ℕ) (change : ℕ → Status → Status) → AreTied s places orders → May e s → IsSteady e
    → ((call part : ℕ) (p : PartState) (has : Has s caller call part p) → is_ordered p.order ≡ true → (orders caller).first ≤ places call + part
    → status_of (phase_after call part e has.state.is_wanted p) ≡ change (places call + part) (status_of p.phase))
    → ((other call part : ℕ) (p : PartState) (has : Has s other call part p) → other ≢ caller → phase_after call part e has.state.is_wanted p ≡ p.phase)
    → OrderGoes change (orders caller) (new caller) → ((other : ℕ) → other ≢ caller → new other ≡ orders other) → AreTied (after e s) places new
tied_caller {s = s} {places = places} {orders = orders} e new caller change t may steady own others goes same =
    tied_after e new (λ c. if eqb c caller then change else keeps) t may steady
    (λ c call part p has o low. elim (cases_eq c caller) [
      | inl is ↦
          rw (eq-eqb c caller is)
          (own call part p (moved c call part p is has) o (subst (λ n. (orders n).first ≤ places call + part) is low))
      | inr ne ↦ rw (apart c ne) (ap status_of (others c call part p has ne))
    ])
    (λ c. elim (cases_eq c caller) [
      | inl is ↦ rw (eq-eqb c caller is) (subst (λ n. OrderGoes change (orders n) (new n)) (sym is) goes)
      | inr ne ↦ rw (apart c ne) (subst (λ (o : Order). OrderGoes keeps (orders c) o) (sym (same c ne)) (goes_same (orders c)))
    ])
  where
    apart : (c : ℕ) → c ≢ caller → eqb c caller ≡ false
    apart c ne = grind (arith, nat_tests)

    moved : (c call part : ℕ) (p : PartState) → c ≡ caller → Has s c call part p → Has s caller call part p
    moved c call part p is has = record { state = has.state; call_is = has.call_is; caller_is = has.caller_is ∙ is; part_is = has.part_is }

-- no status changes
pub tied_silent : {s : State} {places : ℕ → ℕ} {orders : ℕ → Order} (e : Event) (new : ℕ → Order) → AreTied s places orders → May e s → IsSteady e
    → ((caller call part : ℕ) (p : PartState) (has : Has s caller call part p) → is_ordered p.order ≡ true → phase_after call part e has.state.is_wanted p ≡ p.phase)
    → ((caller : ℕ) → new caller ≡ orders caller) → AreTied (after e s) places new
tied_silent {orders = orders} e new t may steady kept same =
    tied_after e new (λ c. keeps) t may steady
    (λ c call part p has o low. ap status_of (kept c call part p has o))
    (λ c. subst (λ (o : Order). OrderGoes keeps (orders c) o) (sym (same c)) (goes_same (orders c)))

-- ---- one part

-- Two parts of a caller that have an order stand at two places.
pub one_place : {s : State} {places : ℕ → ℕ} {orders : ℕ → Order} {caller n q m r : ℕ} {a b : PartState} → AreTied s places orders → Has s caller n q a → Has s caller m r b → is_ordered a.order ≡ true → is_ordered b.order ≡ true
    → places n + q ≡ places m + r → (n ≡ m) × (q ≡ r)
one_place {places = places} {caller = caller} {n = n} {q = q} {m = m} {r = r} {a = a} {b = b} t ha hb oa ob same = elim (cases_order n m) [
  | inl is ↦ let at : places n ≡ places m = ap places is in (is, omega (arith, at, same))
  | inr apart ↦ elim apart [
    | inl lt ↦ let less = t.rising caller n m q r a b lt ha hb oa ob in absurd (omega (arith, less, same))
    | inr gt ↦ let less = t.rising caller m n r q b a gt hb ha ob oa in absurd (omega (arith, less, same))
  ]
]

-- The event changes the phase of this part alone.
abbrev pub IsOnly : (call part : ℕ) → Event → Type 0
IsOnly call part e = (n q : ℕ) (wanted : Bool) (p : PartState) → (n ≡ call → q ≡ part → ⊥) → phase_after n q e wanted p ≡ p.phase

-- a part that has an order gets a status
pub tied_part : {s : State} {places : ℕ → ℕ} {orders : ℕ → Order} {caller call part : ℕ} {p : PartState} (e : Event) (new : ℕ → Order) (st : Status) → AreTied s places orders → May e s → IsSteady e → IsOnly call part e
    → (has : Has s caller call part p) → is_ordered p.order ≡ true → status_of (phase_after call part e has.state.is_wanted p) ≡ st
    → OrderGoes (gets (places call + part) st) (orders caller) (new caller) → ((other : ℕ) → other ≢ caller → new other ≡ orders other) → AreTied (after e s) places new
tied_part {s = s} {places = places} {orders = orders} {caller = caller} {call = call} {part = part} {p = p} e new st t may steady only has o is goes same =
    tied_caller e new caller (gets (places call + part) st) t may steady
    (λ n q x own ordered low. elim (cases_eq (places n + q) (places call + part)) [
      | inl at ↦
          let one = one_place t own has ordered o at in
          moved n q x own one.0 one.1 ∙ is ∙ sym (gets_here (places call + part) (places n + q) st (status_of x.phase) at)
      | inr ne ↦
          ap status_of (only n q own.state.is_wanted x (λ en eq. ne (apart n q en eq)))
          ∙ sym (gets_other (places call + part) (places n + q) st (status_of x.phase) ne)
    ])
    (λ c n q x own ne. only n q own.state.is_wanted x (λ en eq. ne (one_caller (subst (λ m. Has s c m q x) en own) has)))
    goes same
  where
    apart : (n q : ℕ) → n ≡ call → q ≡ part → places n + q ≡ places call + part
    apart n q en eq = ap (λ m. places m + q) en ∙ ap (λ m. places call + m) eq

    moved : (n q : ℕ) (x : PartState) (own : Has s caller n q x) → n ≡ call → q ≡ part → status_of (phase_after n q e own.state.is_wanted x) ≡ status_of (phase_after call part e has.state.is_wanted p)
    moved n q x own en eq =
        let here : Has s caller call q x = subst (λ m. Has s caller m q x) en own in
        let it : Has s caller call part x = subst (λ m. Has s caller call m x) eq here in
        let same : own.state ≡ has.state = same_call own.state has.state (sym own.call_is ∙ ap (λ m. call_at m s) en ∙ has.call_is) in
        ap (λ m. status_of (phase_after m q e own.state.is_wanted x)) en
        ∙ ap (λ m. status_of (phase_after call m e own.state.is_wanted x)) eq
        ∙ ap (λ (c : CallState). status_of (phase_after call part e c.is_wanted x)) same
        ∙ ap (λ (y : PartState). status_of (phase_after call part e has.state.is_wanted y)) (one_part it has)

-- a part that is free of the order changes
pub tied_free : {s : State} {places : ℕ → ℕ} {orders : ℕ → Order} {caller call part : ℕ} {p : PartState} (e : Event) (new : ℕ → Order) → AreTied s places orders → May e s → IsSteady e → IsOnly call part e
    → Has s caller call part p → is_ordered p.order ≡ false → ((other : ℕ) → new other ≡ orders other) → AreTied (after e s) places new
tied_free {s = s} {call = call} {part = part} e new t may steady only has free same =
    tied_silent e new t may steady
    (λ c n q x own o. only n q own.state.is_wanted x (λ en eq.
    let it : Has s c call part x = subst (λ m. Has s c call m x) eq (subst (λ m. Has s c m q x) en own) in
    false≢true (sym free ∙ ap (λ (y : PartState). is_ordered y.order) (one_part has it) ∙ o)))
    same

-- ---- the start, and what places are told by

pub tied_start : (places : ℕ → ℕ) (orders : ℕ → Order) → ((caller : ℕ) → orders caller ≡ no_order) → AreTied start places orders
tied_start places orders none = record {
  forgotten = λ caller call part p has o lt. absurd (nothing caller call part p has);
  stands = λ caller call part p has o le. absurd (nothing caller call part p has);
  comes = λ caller at x e.
      let no : None ≡ Some x = sym (none_at {X = OrderedPart} at 0 [] refl) ∙ sym (ap (ordered_at at) (none caller)) ∙ e in
      absurd (cc);
  rising = λ caller first second i j p q lt hp hq op oq. absurd (nothing caller first i p hp);
  alike = λ caller call i j p q hp hq. absurd (nothing caller call i p hp);
}
  where
    nothing : (caller call part : ℕ) (p : PartState) → Has start caller call part p → ⊥
    nothing caller call part p has = let no : None ≡ Some has.state = sym (not_begun call start (omega arith)) ∙ has.call_is in cc

-- a caller without parts may have an empty order
pub tied_without : {s : State} {places : ℕ → ℕ} {orders : ℕ → Order} (caller : ℕ) (new : ℕ → Order) → AreTied s places orders → ((call part : ℕ) (p : PartState) → Has s caller call part p → ⊥) → new caller ≡ no_order
    → ((other : ℕ) → other ≢ caller → new other ≡ orders other) → AreTied s places new
tied_without {s = s} {places = places} {orders = orders} caller new t none empty others = record {
  forgotten = λ c call part p has o lt. t.forgotten c call part p has o (subst (λ (x : Order). places call + part < x.first) (same c call part p has) lt);
  stands = λ c call part p has o le. ap (ordered_at (places call + part)) (same c call part p has) ∙ t.stands c call part p has o (subst (λ (x : Order). x.first ≤ places call + part) (same c call part p has) le);
  comes = λ c at x e. elim (cases_eq c caller) [
    | inl own ↦ let no : None ≡ Some x = sym (none_at {X = OrderedPart} at 0 [] refl) ∙ ap (ordered_at at) (sym (ap new own ∙ empty)) ∙ e in absurd (cc)
    | inr ne ↦ t.comes c at x (ap (ordered_at at) (sym (others c ne)) ∙ e)
  ];
  rising = t.rising;
  alike = t.alike;
}
  where
    same : (c call part : ℕ) (p : PartState) → Has s c call part p → new c ≡ orders c
    same c call part p has = others c (λ own. none call part p (subst (λ n. Has s n call part p) own has))

-- the orders may be told by another function that is the same for each caller
pub tied_orders : {s : State} {places : ℕ → ℕ} {orders : ℕ → Order} (other : ℕ → Order) → AreTied s places orders → ((caller : ℕ) → other caller ≡ orders caller) → AreTied s places other
tied_orders {s = s} {places = places} {orders = orders} other t same = record {
  forgotten = λ caller call part p has o lt. t.forgotten caller call part p has o (subst (λ (x : Order). places call + part < x.first) (same caller) lt);
  stands = λ caller call part p has o le.
      ap (ordered_at (places call + part)) (same caller) ∙ t.stands caller call part p has o (subst (λ (x : Order). x.first ≤ places call + part) (same caller) le);
  comes = λ caller at x e. t.comes caller at x (ap (ordered_at at) (sym (same caller)) ∙ e);
  rising = t.rising;
  alike = t.alike;
}
