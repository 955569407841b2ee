-- A slot has one shard at most.
use Rattle.std.proofs.Common.{◌≡◌, ◌∙◌, ℕ, Some, slice_get, ap, sym}
use Rattle.cluster_map.specs.RangeMap.{Ascends}
use Rattle.cluster_map.proofs.Ranges.{IsAnswerAt-unique}
use Rattle.cluster_map.specs.Shards.{ShardNodes}
use Rattle.cluster_map.specs.Topology.{Topology, IsShardAt}

pub IsShardAt-unique : (t : Topology) (slot : ℕ) (a b : ShardNodes) → Ascends t.ranges → IsShardAt t slot a → IsShardAt t slot b → a ≡ b
IsShardAt-unique t slot a b ascends (p, answers_p, at_p) (q, answers_q, at_q) =
    let same : Some a ≡ Some b = sym at_p ∙ ap (slice_get t.shards) (IsAnswerAt-unique t.ranges slot p q ascends answers_p answers_q) ∙ at_q in
    cc
