-- A part that is overtaken stands so in the order of its caller.
use Rattle.std.proofs.Common.{◌≡◌, ◌+◌, ℕ, true, refl, sym, ap, ◌∙◌, subst, arith}
use Rattle.std.proofs.lemmas.Bool.{false≢true}
use Rattle.std.proofs.lemmas.Option.{same_Some}
use Rattle.session_core.specs.declared.ordered_part.Status.TheVariants.{Settled}
use Rattle.session_core.specs.declared.part.PartOrder.{PartOrder}
use Rattle.session_core.specs.declared.part.PartOrder.TheVariants.{OfSlot, Whole, Free}
use Rattle.session_core.specs.declared.ordered_part.OrderedPart.{OrderedPart}
use Rattle.session_core.specs.declared.ordered_part.Seat.{Seat}
use Rattle.session_core.specs.Order.{Order, IsOvertaken, IsOf, NamesWaiting, ordered_at}
use Rattle.session_core.specs.Part.{Phase, Waits, Asked, Answered, Lost, Refused, Unsent, PartState, have_slot, is_settled, is_waiting}
use Rattle.session_core.specs.State.{State, CallState}
use Rattle.session_machine.specs.Ties.{AreTied, is_ordered, status_of, ordered_part}
use Rattle.session_machine.proofs.Ties.Parts.{waiting_undone, status_waiting}
use Rattle.std.specs.List.{slice_get}
use Rattle.session_machine.proofs.Ties.Asks.{not_passed, stands_there, overtaken_part}
use Rattle.session_machine.specs.Waiting.{IsOvertakenOn}

settled_status : (f : Phase) → is_settled f ≡ true → status_of f ≡ Settled
settled_status (Waits left) h = absurd (false≢true h)
settled_status (Asked link left) h = absurd (false≢true h)
settled_status (Answered reply) h = refl
settled_status Lost h = refl
settled_status (Refused error) h = absurd (false≢true h)
settled_status (Unsent cause) h = absurd (false≢true h)

slot_first : (a b : PartOrder) → have_slot a b ≡ true → is_ordered a ≡ true
slot_first (OfSlot n) b h = refl
slot_first Whole b h = refl
slot_first Free b h = absurd (false≢true h)

slot_second : (a b : PartOrder) → have_slot a b ≡ true → is_ordered b ≡ true
slot_second a (OfSlot n) h = refl
slot_second a Whole h = refl
slot_second (OfSlot n) Free h = absurd (false≢true h)
slot_second Whole Free h = absurd (false≢true h)
slot_second Free Free h = absurd (false≢true h)

pub passed_stands : {s : State} {places : ℕ → ℕ} {orders : ℕ → Order} (caller slot call part : ℕ) → AreTied s places orders → IsOvertakenOn caller slot call part s → IsOvertaken (places call + part) (orders caller) × IsOf slot (places call + part) (orders caller)
passed_stands {places = places} {orders = orders} caller slot call part t over =
    let x = over.passed in
    let o = slot_first x.it.order x.other.order x.same_slot in
    let p = slot_second x.it.order x.other.order x.same_slot in
    let undone = waiting_undone x.it.phase over.waits in
    let there = stands_there t x.has o undone in
    let low = not_passed t x.has o undone in
    let rises = t.rising x.caller call x.later part x.later_part x.it x.other x.is_later x.has x.has_later o p in
    let other = t.stands x.caller x.later x.later_part x.other x.has_later p (omega (arith, low, rises)) in
    subst (λ (c : ℕ). IsOvertaken (places call + part) (orders c) × IsOf slot (places call + part) (orders c)) over.caller_is (
      record {
        it = ordered_part call part x.it;
        there = there;
        waits = status_waiting x.it.phase over.waits;
        at = places x.later + x.later_part;
        other = ordered_part x.later x.later_part x.other;
        other_there = other;
        is_later = x.is_later;
        same_slot = x.same_slot;
        settled = settled_status x.other.phase x.settled;
      },
      (ordered_part call part x.it, there, over.slot_is),
    )

-- the part that the order says is overtaken, of this caller and slot
pub overtaken_on : {s : State} {places : ℕ → ℕ} {orders : ℕ → Order} (caller slot at : ℕ) (seat : Seat) → AreTied s places orders → IsOvertaken at (orders caller) → IsOf slot at (orders caller) → NamesWaiting at seat (orders caller)
    → IsOvertakenOn caller slot seat.call seat.part s
overtaken_on {orders = orders} caller slot at seat t over of names =
    let found = overtaken_part caller at seat t over names in
    let named = found.named in
    let x = found.passed in
    let same : x.has.state ≡ named.has.state = same_Some x.has.state named.has.state (sym x.has.call_is ∙ named.has.call_is) in
    let it : x.it ≡ named.it = same_Some x.it named.it (sym x.has.part_is ∙ ap (λ (c : CallState). slice_get c.parts seat.part) same ∙ named.has.part_is) in
    let own : of.0 ≡ ordered_part seat.call seat.part named.it = same_Some of.0 (ordered_part seat.call seat.part named.it)
    (sym of.1 ∙ ap (λ n. ordered_at n (orders caller)) named.place ∙ stands_there t named.has named.ordered (waiting_undone named.it.phase named.waits)) in
    record {
      passed = x;
      caller_is = sym x.has.caller_is ∙ ap (λ (c : CallState). c.caller) same ∙ named.has.caller_is;
      slot_is = ap (λ (p : PartState). p.order) it ∙ ap (λ (y : OrderedPart). y.order) (sym own) ∙ of.2;
      waits = ap (λ (p : PartState). is_waiting p.phase) it ∙ named.waits;
    }
