use Rattle.std.proofs.Common.{◌∙◌, [], sym, subst, arith}
use Rattle.cluster_map.specs.RangeMap.{Ascends}
use Rattle.cluster_map.proofs.Finds.{Ascends-insert_entries}
use Rattle.cluster_map.proofs.Bulk.{length-insert_entries}
use Rattle.cluster_map.proofs.slot_range_map.put_in_order.Goals as goal

-- the room for the ends was there before the sort
pub returns-in_err-write_index-clause-unchanged : goal.returns-in_err-write_index-clause-unchanged
returns-in_err-write_index-clause-unchanged g c = grind (arith, length-insert_entries)

pub write_index-requires-clause-ascends : goal.write_index-requires-clause-ascends
write_index-requires-clause-ascends g c = subst Ascends (sym (c.as_slice.ensures.value ∙ c.in_ok-sort_by_end.ensures.put)) (Ascends-insert_entries [] c.args.ranges.now.items tt)
