use Rattle.std.proofs.Common.{◌∙◌}
use Rattle.cluster_map.proofs.Places.{ends_seen_rise, place_found}
use Rattle.cluster_map.proofs.Pages.{seen_ends}
use Rattle.cluster_map.proofs.slot_range_map.SlotRangeMap.place.Goals as goal

pub place_by_pages-requires-clause-rises : goal.place_by_pages-requires-clause-rises
place_by_pages-requires-clause-rises g c =
    ends_seen_rise c.self.inside.ranges.items _ c.self.invariant.0
    (seen_ends c.self.inside.ranges.items _ _ _ _ _ c.self.invariant.1 c.deref.ensures.value (c.len.ensures ∙ c.self.inside.ranges.ok.0) c.split_at.ensures.front)

pub returns-then-ends-lt-LANES : goal.returns-then-ends-lt-LANES
returns-then-ends-lt-LANES g c =
    rw (← c.self.view_is)
    (place_found c.self.inside.ranges.items _ c.args.end _ c.count_below.ensures
    (seen_ends c.self.inside.ranges.items _ _ _ _ _ c.self.invariant.1 c.deref.ensures.value (c.len.ensures ∙ c.self.inside.ranges.ok.0) c.split_at.ensures.front))

pub returns-else-ends-lt-LANES : goal.returns-else-ends-lt-LANES
returns-else-ends-lt-LANES g c =
    rw (← c.self.view_is)
    (place_found c.self.inside.ranges.items _ c.args.end _ c.place_by_pages.ensures.place
    (seen_ends c.self.inside.ranges.items _ _ _ _ _ c.self.invariant.1 c.deref.ensures.value (c.len.ensures ∙ c.self.inside.ranges.ok.0) c.split_at.ensures.front))
