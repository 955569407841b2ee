use Rattle.std.proofs.Common.{[], ap, sym, subst, ◌∙◌}
use Rattle.cluster_map.specs.RangeMap.{Ascends, insert_entries}
use Rattle.cluster_map.proofs.Finds.{Ascends-insert_entries, insert_entries-onto}
use Rattle.cluster_map.proofs.slot_range_map.SlotRangeMap.extend.Goals as goal

pub invariant_of-self-then-is_empty : goal.invariant_of-self-then-is_empty
invariant_of-self-then-is_empty g c = (
  subst Ascends (sym c.in_ok-page_bits.ensures.put) (Ascends-insert_entries [] c.args.ranges.items tt),
  c.in_ok-page_bits.ensures.index,
)

pub invariant_of-self-in-Ok : goal.invariant_of-self-in-Ok
invariant_of-self-in-Ok g c = (
  subst Ascends (sym c.in-Ok.ensures.put) (Ascends-insert_entries [] c.append.new.self.items tt),
  c.in-Ok.ensures.index,
)

pub returns-in-Ok-clause-put : goal.returns-in-Ok-clause-put
returns-in-Ok-clause-put g c =
    rw (← c.self.view_is)
    (c.in-Ok.ensures.put ∙ ap (insert_entries []) c.in_ok-append.ensures.items ∙ insert_entries-onto c.self.inside.ranges.items c.args.ranges.items c.self.invariant.0)
