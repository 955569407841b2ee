-- A call may begin with parts that are new.
use Rattle.std.proofs.Common.{◌≡◌, ◌≢◌, ◌<◌, ◌⊎◌, ◌++◌, inl, inr, ℕ, zero, suc, Bool, true, false, List, [], ◌∷◌, Some, length, map, refl, sym, ap, ◌∙◌, subst, arith}
use Rattle.std.specs.Prelude.{slice_get}
use Rattle.std.specs.List.{list_all}
use Rattle.std.proofs.lemmas.Bool.Decides.{nat_tests}
use Rattle.std.proofs.lemmas.List.{length-map}
use Rattle.std.proofs.lemmas.Option.{same_Some}
use Rattle.cluster_slots.specs.Address.{Address}
use Rattle.redis_session.specs.Directory.{AreNumbersOf}
use Rattle.session_core.specs.Part.{PartState, is_waiting, have_slot}
use Rattle.session_core.specs.declared.part.PartOrder.{PartOrder}
use Rattle.session_core.specs.declared.part.PartOrder.TheVariants.{OfSlot, Whole, Free}
use Rattle.redis_session.specs.Plans.{HaveOwnSlots}
use Rattle.redis_session.specs.declared.plan.SlotPart.{SlotPart}
use Rattle.session_machine.specs.Ties.{AreOrdered, AreFree, is_ordered}
use Rattle.redis_session.specs.Begins.{AreNewParts, CanBegin, IsNewPart, has_slot, new_slot_part}

-- ---- lists of parts

all_wait : (parts : List PartState) → ((i : ℕ) (p : PartState) → slice_get parts i ≡ Some p → is_waiting p.phase ≡ true) → list_all (λ p. is_waiting p.phase) parts ≡ true
all_wait [] each = refl
all_wait (p ∷ parts) each = let first : is_waiting p.phase ≡ true = each 0 p refl in rw first (all_wait parts (λ i q at. each (suc i) q at))

pub one_more : {retries : ℕ} {request : List ℕ} {order : PartOrder} {may : Bool} (parts : List PartState) (part : PartState) → AreNewParts retries request order may parts → IsNewPart retries request order may part → AreNewParts retries request order may (parts ++ part ∷ [])
one_more {retries = retries} {request = request} {order = order} {may = may} [] part each here zero p at = subst (IsNewPart retries request order may) (same_Some part p at) here
one_more [] part each here (suc i) p at = absurd (cc at)
one_more (q ∷ parts) part each here zero p at = each zero p at
one_more (q ∷ parts) part each here (suc i) p at = one_more parts part (λ k x e. each (suc k) x e) here i p at

-- ---- parts of one order

no_slot : (order other : PartOrder) → has_slot order ≡ false → have_slot order other ≡ false
no_slot (OfSlot slot) other none = absurd (cc none)
no_slot Whole other none = refl
no_slot Free other none = refl

alike : (order : PartOrder) (parts : List PartState) (b : Bool) → is_ordered order ≡ b → ((i : ℕ) (p : PartState) → slice_get parts i ≡ Some p → p.order ≡ order) → AreOrdered parts ⊎ AreFree parts
alike order parts true is each = inl (λ i p at. ap is_ordered (each i p at) ∙ is)
alike order parts false is each = inr (λ i p at. ap is_ordered (each i p at) ∙ is)

pub several_begin : {retries : ℕ} {request : List ℕ} {order : PartOrder} {may : Bool} (parts : List PartState) → AreNewParts retries request order may parts → 0 < length request → has_slot order ≡ false → CanBegin parts
several_begin {order = order} parts each some none = record {
  wait = all_wait parts (λ i p at. ap is_waiting (each i p at).waits);
  apart = λ i j p q before first second. rw ((each i p first).order_is) (no_slot order q.order none);
  alike = alike order parts (is_ordered order) refl (λ i p at. (each i p at).order_is);
  full = λ i p at. rw ((each i p at).request_is) some;
}

-- each node has a number
pub count_numbers : (numbers : List ℕ) (addresses nodes : List Address) → AreNumbersOf numbers addresses nodes → length numbers ≡ length addresses
count_numbers numbers addresses nodes are = sym (length-map numbers (λ n. slice_get nodes n)) ∙ ap length are ∙ length-map addresses Some

-- ---- parts of slots

apart_slots : (slot other : ℕ) → slot ≢ other → have_slot (OfSlot slot) (OfSlot other) ≡ false
apart_slots slot other ne = grind (arith, nat_tests)

module _ (may_refuse : Bool) (retries : ℕ) where
  made : (slots : List SlotPart) (i : ℕ) (p : PartState) → slice_get (map (new_slot_part may_refuse retries) slots) i ≡ Some p
      → (s : SlotPart) × (slice_get slots i ≡ Some s) × (new_slot_part may_refuse retries s ≡ p)
  made [] i p at = absurd (cc at)
  made (s ∷ slots) zero p at = (s, refl, same_Some (new_slot_part may_refuse retries s) p at)
  made (s ∷ slots) (suc i) p at = made slots i p at

  pub slots_begin : (slots : List SlotPart) → HaveOwnSlots slots → CanBegin (map (new_slot_part may_refuse retries) slots)
  slots_begin slots own = record {
    wait = all_wait (map (new_slot_part may_refuse retries) slots) (λ i p at. let s = made slots i p at in ap (λ (x : PartState). is_waiting x.phase) (sym s.2));
    apart = λ i j p q before first second.
        let s = made slots i p first in
        let t = made slots j q second in
        rw (sym s.2, sym t.2) (apart_slots s.0.slot t.0.slot (own.apart i j s.0 t.0 before s.1 t.1));
    alike = inl (λ i p at. let s = made slots i p at in ap (λ (x : PartState). is_ordered x.order) (sym s.2));
    full = λ i p at. let s = made slots i p at in rw (sym s.2) (own.full i s.0 s.1);
  }
