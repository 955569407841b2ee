use Rattle.std.proofs.Common.{◌≡◌, ◌++◌, map}
use Rattle.cluster_map.specs.SlotNodes.{range_entry}
use Rattle.cluster_map.proofs.slot_map.range_entries.Given as goal

-- the entries are those of the ranges so far
abbrev pub invariant-loop-slot : goal.invariant-loop-slot
invariant-loop-slot l = (l.yielded ++ l.slot-iterator.rest.items ≡ l.fn.slots.items) × (l.entries.items ≡ map range_entry l.yielded)
