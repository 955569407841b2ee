-- When the known shard of a slot has many ranges.
use Rattle.std.proofs.Common.{◌≡◌, ◌≤◌, ◌↔◌, ℕ, nat_le, List, Some, length, sym, subst, arith}
use Rattle.std.specs.Bool.{IsTrue}
use Rattle.std.proofs.lemmas.Bool.{leb-true}
use Rattle.std.proofs.lemmas.Bool.Decides.{nat_tests}
use Rattle.cluster_map.specs.RangeMap.{Ascends, IsUncovered}
use Rattle.cluster_map.specs.Shards.{ShardNodes}
use Rattle.cluster_map.specs.Topology.{Topology, IsShardAt}
use Rattle.cluster_map.proofs.OneShard.{IsShardAt-unique}
use Rattle.memory_nodes.specs.Picks.{HasManyRanges}

pub no_shard : (t : Topology) (slot : ℕ) → IsUncovered t.ranges slot → ¬ (HasManyRanges (Some t) slot)
no_shard t slot uncovered (shard, (place, answers, there), many) = uncovered place answers

many_ranges : (t : Topology) (slot : ℕ) (shard : ShardNodes) → Ascends t.ranges → IsShardAt t slot shard → HasManyRanges (Some t) slot → 2 ≤ length shard.ranges
many_ranges t slot shard ascends is (other, others, many) = subst (λ s. 2 ≤ length s.ranges) (IsShardAt-unique t slot other shard ascends others is) many

-- the test of a shard's ranges
pub many_exactly : (t : Topology) (slot : ℕ) (shard : ShardNodes) (ranges : List (ℕ × ℕ)) → Ascends t.ranges → IsShardAt t slot shard → ranges ≡ shard.ranges → IsTrue (nat_le 2 (length ranges)) ↔ HasManyRanges (Some t) slot
many_exactly t slot shard ranges ascends is same = (
  (λ yes. (shard, is, subst (λ z. 2 ≤ length z) same (leb-true 2 (length ranges) yes))),
  (λ has.
      let many : 2 ≤ length ranges = subst (λ z. 2 ≤ length z) (sym same) (many_ranges t slot shard ascends is has) in
      grind (arith, nat_tests)),
)
