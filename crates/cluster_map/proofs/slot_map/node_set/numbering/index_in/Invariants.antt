use Rattle.std.proofs.Common.{◌≡◌, ◌<◌, ◌≤◌, ℕ, Bor, false, ◌-◌, get_or, length}
use Rattle.cluster_slots.specs.Address.{same_address}
use Rattle.cluster_map.proofs.slot_map.node_set.numbering.index_in.Given as goal

-- those before the index are others
abbrev pub invariant-loop-index : goal.invariant-loop-index
invariant-loop-index l = record {
  within : l.index ≤ length l.found;
  others : (k : ℕ) (d : Bor _) → k < l.index → same_address l.node (get_or l.found k d).now ≡ false;
}

abbrev pub decreases-loop-index : goal.decreases-loop-index
decreases-loop-index l = length l.found - l.index
