-- The lanes of a part that stands alone.
use Rattle.std.proofs.Common.{inl, inr, true, false, ◌≡◌, ◌≢◌, ℕ, [], Option, None, Some, IfSome, IfNone, refl, sym, ap, ◌∙◌, subst, arith}
use Rattle.std.specs.Ordering.{nat_cmp}
use Rattle.std.specs.BTreeMap.{is_at}
use Rattle.std.proofs.lemmas.Bool.{cases_eq}
use Rattle.std.proofs.lemmas.Bool.Decides.{nat_tests}
use Rattle.session_core.specs.declared.lone_part.LonePart.{LonePart}
use Rattle.session_core.specs.declared.part.PartOrder.TheVariants.{OfSlot}
use Rattle.session_core.specs.declared.ordered_part.Status.{Status}
use Rattle.session_core.specs.declared.ordered_part.Status.TheVariants.{Waits, Asked, Settled, Unsent}
use Rattle.session_core.specs.Inner.Lane.{Lane, no_lane, with_status, MayBecome}
use Rattle.session_core.specs.Inner.LaneForms.{part_lane}
use Rattle.session_core.specs.Inner.Lone.{alone, with_lone}
use Rattle.session_core.specs.Inner.Tied.{Lanes, lane_of, IsEmpty, Stepped}
use Rattle.session_core.proofs.LaneParts.{part_place}

-- the lane of its own slot, and of another one
pub lane_here : (slot : ℕ) (lone : LonePart) → slot ≡ lone.slot → lane_of slot (alone lone) ≡ part_lane lone.part
lane_here slot lone e =
    let at : is_at (nat_cmp slot) lone.slot ≡ true = grind (arith, nat_tests) in
    rw at refl

lane_other : (slot : ℕ) (lone : LonePart) → slot ≢ lone.slot → lane_of slot (alone lone) ≡ no_lane
lane_other slot lone ne =
    let at : is_at (nat_cmp slot) lone.slot ≡ false = grind (arith, nat_tests) in
    rw at refl

none_becomes : (place : ℕ) (status : Status) → MayBecome place status no_lane → ⊥
none_becomes place Waits may = may.0
none_becomes place (Asked link) may = may.0.0
none_becomes place Settled may = may.0
none_becomes place Unsent may = may

-- only the part itself may get a status, on its own slot
pub lone_becomes : (slot place : ℕ) (status : Status) (lone : LonePart) → MayBecome place status (lane_of slot (alone lone))
    → (slot ≡ lone.slot) × (lone.part.place ≡ place) × MayBecome lone.part.place status (part_lane lone.part)
lone_becomes slot place status lone may = elim (cases_eq slot lone.slot) [
  | inl e ↦
      let m : MayBecome place status (part_lane lone.part) = subst (MayBecome place status) (lane_here slot lone e) may in
      let is = part_place place status lone.part m in
      (e, is, subst (λ (n : ℕ). MayBecome n status (part_lane lone.part)) (sym is) m)
  | inr ne ↦ absurd (none_becomes place status (subst (MayBecome place status) (lane_other slot lone ne) may))
]

slots_same : (slot q : ℕ) → OfSlot slot ≡ OfSlot q → slot ≡ q
slots_same slot q e = cc

-- what becomes of the lanes then
pub lone_stepped : (slot : ℕ) (status : Status) (lone : LonePart) (next : Option LonePart) (lanes : Lanes) → slot ≡ lone.slot → lanes ≡ []
    → IfSome next (λ new. new.slot ≡ lone.slot) → IfSome next (λ new. part_lane new.part ≡ with_status lone.part.place status (part_lane lone.part))
    → IfNone next (IsEmpty (with_status lone.part.place status (part_lane lone.part)))
    → Stepped (OfSlot slot) (with_status lone.part.place status) (alone lone) (with_lone next lanes)
lone_stepped slot status lone (Some new) lanes e none same is stays = record {
  here = λ q o.
      let here : q ≡ lone.slot = sym (slots_same slot q o) ∙ e in
      inl (lane_here q new (here ∙ sym same) ∙ is ∙ ap (with_status lone.part.place status) (sym (lane_here q lone here)));
  others = λ q not.
      let apart : q ≢ lone.slot = λ x. not (ap OfSlot (e ∙ sym x)) in
      lane_other q new (λ x. apart (x ∙ same)) ∙ sym (lane_other q lone apart);
}
lone_stepped slot status lone None lanes e none same is gone = record {
  here = λ q o.
      let here : q ≡ lone.slot = sym (slots_same slot q o) ∙ e in
      inr (ap (lane_of q) none, subst (λ (l : Lane). IsEmpty (with_status lone.part.place status l)) (sym (lane_here q lone here)) gone);
  others = λ q not.
      let apart : q ≢ lone.slot = λ x. not (ap OfSlot (e ∙ sym x)) in
      ap (lane_of q) none ∙ sym (lane_other q lone apart);
}
