use Rattle.std.proofs.Common.{◌≡◌, ◌≤◌, arith, length, sym, subst, true, slice_get, ◌∙◌}
use Rattle.cluster_map.specs.RangeMap.{Ascends, ends_at}
use Rattle.cluster_map.proofs.Ranges.{Ascends-insert_entry}
use Rattle.cluster_map.proofs.Places.{there-within, set-is_insert_entry, insert-is_insert_entry, ends-set, place_in, place_in-most}
use Rattle.cluster_map.proofs.Pages.{IsIndex-same, IsIndex-insert}
use Rattle.cluster_map.proofs.slot_range_map.SlotRangeMap.insert.Goals as goal

pub insert-requires : goal.insert-requires
insert-requires g c =
    let place : c.place-place.result ≡ place_in c.self.inside.ranges.items c.args.end = rw c.self.view_is c.place-place.ensures in
    let most = place_in-most c.self.inside.ranges.items c.args.end in
    let ranges = c.self.inside.ranges.ok.0 in
    omega arith

-- the index has an end for each range
pub insert-requires-else-ends_at : goal.insert-requires-else-ends_at
insert-requires-else-ends_at g c = grind (arith, place_in c.self.inside.ranges.items c.args.end, place_in-most c.self.inside.ranges.items c.args.end)

pub index_mut-requires : goal.index_mut-requires
index_mut-requires g c =
    let within = there-within c.as_slice.result.now c.place-place.result c.args.end (sym c.ends_at.ensures ∙ c.if-ends_at.true) in
    omega arith

pub invariant_of-self : goal.invariant_of-self
invariant_of-self g c =
    let place : c.place-place.result ≡ place_in c.self.inside.ranges.items c.args.end = rw c.self.view_is c.place-place.ensures in
    let there = sym c.ends_at.ensures ∙ c.if-ends_at.true in
    let is = set-is_insert_entry c.self.inside.ranges.items _ c.place-place.result c.args.start c.args.end c.args.value c.self.invariant.0 c.as_slice.ensures.value place there in (
      subst Ascends (sym is) (Ascends-insert_entry c.self.inside.ranges.items c.args.start c.args.end c.args.value c.self.invariant.0),
      IsIndex-same c.self.inside.ranges.items _ c.self.inside.index.items _ (ends-set c.self.inside.ranges.items _ c.args.start c.args.end c.args.value (subst (λ seen. ends_at c.args.end (slice_get seen c.place-place.result) ≡ true) c.as_slice.ensures.value there)) c.self.invariant.1,
    )

pub returns-then-ends_at-clause-put : goal.returns-then-ends_at-clause-put
returns-then-ends_at-clause-put g c =
    let place : c.place-place.result ≡ place_in c.self.inside.ranges.items c.args.end = rw c.self.view_is c.place-place.ensures in
    rw (← c.self.view_is)
    (set-is_insert_entry c.self.inside.ranges.items _ c.place-place.result c.args.start c.args.end c.args.value c.self.invariant.0 c.as_slice.ensures.value place (sym c.ends_at.ensures ∙ c.if-ends_at.true))

pub invariant_of-self-in-Continue-branch-3 : goal.invariant_of-self-in-Continue-branch-3
invariant_of-self-in-Continue-branch-3 g c =
    let place : c.place-place.result ≡ place_in c.self.inside.ranges.items c.args.end = rw c.self.view_is c.place-place.ensures in
    let is = insert-is_insert_entry c.self.inside.ranges.items _ c.place-place.result c.args.start c.args.end c.args.value c.self.invariant.0 c.as_slice.ensures.value place (sym c.ends_at.ensures ∙ c.if-ends_at.false) in (
      subst Ascends (sym (c.in_ok-insert.ensures.items ∙ is)) (Ascends-insert_entry c.self.inside.ranges.items c.args.start c.args.end c.args.value c.self.invariant.0),
      (
          let within : c.place-place.result ≤ length c.self.inside.ranges.items = rw place (place_in-most c.self.inside.ranges.items c.args.end) in
          rw (c.in_ok-insert.ensures.items, c.in_ok-insert-2.ensures.items, c.in_ok-reserve.ensures.items)
          (IsIndex-insert c.self.inside.ranges.items c.self.inside.index.items _ c.place-place.result c.args.start c.args.end c.args.value within c.self.invariant.1)
          ),
    )

pub returns-in_ok-insert-2-clause-put : goal.returns-in_ok-insert-2-clause-put
returns-in_ok-insert-2-clause-put g c =
    let place : c.place-place.result ≡ place_in c.self.inside.ranges.items c.args.end = rw c.self.view_is c.place-place.ensures in
    rw (← c.self.view_is)
    (c.in_ok-insert.ensures.items
    ∙ insert-is_insert_entry c.self.inside.ranges.items _ c.place-place.result c.args.start c.args.end c.args.value c.self.invariant.0 c.as_slice.ensures.value place (sym c.ends_at.ensures ∙ c.if-ends_at.false))
