use Rattle.std.proofs.Common.{◌≡◌, inl, inr, arith, slice_get, Some, None}
use Rattle.std.proofs.lemmas.Bool.{cases_lt, le-leb, lt-leb}
use Rattle.std.proofs.lemmas.Grind.{common_steps}
use Rattle.std.proofs.lemmas.Option.{gets}
use Rattle.cluster_map.proofs.Ranges.{IsAnswerAt-first, IsUncovered-first, disjoint_law}
use Rattle.cluster_map.proofs.Places.{place_in, EndsFirstFrom-found, IsUncovered-not_found}
use Rattle.cluster_map.proofs.slot_range_map.SlotRangeMap.get.Goals as goal

-- no entry ends at the slot or after it
pub returns-in_err-start-clause-least : goal.returns-in_err-start-clause-least
returns-in_err-start-clause-least g c =
    let place : c.place-place.result ≡ place_in c.self.inside.ranges.items c.args.slot = rw c.self.view_is c.place-place.ensures in
    let none : slice_get c.deref.result.now c.place-place.result ≡ None = grind (arith, common_steps, gets) in
    rw (c.from_residual.ensures, ← c.self.view_is)
    (IsUncovered-not_found c.self.inside.ranges.items _ c.place-place.result c.args.slot c.self.invariant.0 c.deref.ensures.value place none)

-- the first entry that ends at the slot or after it answers, unless it starts after the slot
pub returns-clause-least : goal.returns-clause-least
returns-clause-least g c =
    let entry = c.in_ok-start.field-0.now in
    let place : c.place-place.result ≡ place_in c.self.inside.ranges.items c.args.slot = rw c.self.view_is c.place-place.ensures in
    let there : slice_get c.deref.result.now c.place-place.result ≡ Some entry = grind (arith, common_steps, gets) in
    let first = EndsFirstFrom-found c.self.inside.ranges.items _ c.place-place.result c.args.slot entry c.self.invariant.0 c.deref.ensures.value place there in
    elim (cases_lt c.args.slot entry.0) [
      | inl after ↦
          rw (c.then_some.ensures, lt-leb entry.0 c.args.slot after, ← c.self.view_is)
          (IsUncovered-first c.self.inside.ranges.items c.args.slot entry c.self.invariant.0 first after)
      | inr before ↦
          rw (c.then_some.ensures, le-leb entry.0 c.args.slot before, ← c.self.view_is)
          (IsAnswerAt-first c.self.inside.ranges.items c.args.slot entry first before)
    ]

-- the law on disjoint entries follows from either answer
pub returns-in_err-start-clause-disjoint : goal.returns-in_err-start-clause-disjoint
returns-in_err-start-clause-disjoint g c =
    disjoint_law c.args.self.now c.args.slot c.from_residual.result (rw (← c.self.view_is) c.self.invariant.0) (returns-in_err-start-clause-least g c)

pub returns-clause-disjoint : goal.returns-clause-disjoint
returns-clause-disjoint g c = disjoint_law c.args.self.now c.args.slot c.then_some.result (rw (← c.self.view_is) c.self.invariant.0) (returns-clause-least g c)
