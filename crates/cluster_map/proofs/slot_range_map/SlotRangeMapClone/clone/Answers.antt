use Rattle.std.proofs.Common.{◌∙◌}
use Rattle.std.proofs.lemmas.List.Elements.{same_from_all_zip}
use Rattle.cluster_map.specs.RangeMap.{IsEntryClone}
use Rattle.cluster_map.proofs.Clones.{ends-cloned, Ascends-cloned, entry-cloned}
use Rattle.cluster_map.proofs.Pages.{IsIndex-same}
use Rattle.cluster_map.proofs.slot_range_map.SlotRangeMapClone.clone.Goals as goal

pub invariant_of-result : goal.invariant_of-result
invariant_of-result g c =
    let cloned = c.in_ok-clone-2.ensures.cases.0 in
    let source = c.self.inside.ranges.items in
    let copies = c.in_ok-clone-2.field-0.items in (
      Ascends-cloned g.V.Clone.is_clone source copies cloned c.self.invariant.0,
      rw (same_from_all_zip _ _ _ c.in_ok-clone.ensures.cases.0 (λ x y same. same))
          (IsIndex-same source copies c.self.inside.index.items _ (ends-cloned g.V.Clone.is_clone source copies cloned) c.self.invariant.1),
    )

pub returns-clause-same : goal.returns-clause-same
returns-clause-same g c = λ equal.
    same_from_all_zip (IsEntryClone g.V.Clone.is_clone) _ _ c.in_ok-clone-2.ensures.cases.0 (λ e copy. entry-cloned g.V.Clone.is_clone e copy equal)
    ∙ c.self.view_is
