-- Which candidate each strategy picks.
use Rattle.std.specs.Prelude.{◌≡◌, ◌≤◌, ℕ, ◌-◌, ◌%◌, ◌⊎◌, length, Option, Some, None, slice_get}
use Rattle.cluster_map.specs.Address.{Address}
use Rattle.cluster_map.specs.Candidates.{Candidates, primary_then_replicas}
use Rattle.cluster_map.specs.Shards.{ShardNodes}
use Rattle.cluster_map.specs.Topology.{Topology, IsShardAt}

-- the address is the first replica
abbrev pub IsFirstReplica : Candidates → Address → Type 0
IsFirstReplica c address = slice_get c.replicas 0 ≡ Some address

-- the address is the last replica
abbrev pub IsLastReplica : Candidates → Address → Type 0
IsLastReplica c address = slice_get c.replicas (length c.replicas - 1) ≡ Some address

-- the address is the candidate at the index modulo their number
abbrev pub IsAtIndex : ℕ → Candidates → Address → Type 0
IsAtIndex index c address = slice_get (primary_then_replicas c) (index % length (primary_then_replicas c)) ≡ Some address

-- the known topology has a shard for the slot, and this shard has two ranges or more
abbrev pub HasManyRanges : Option Topology → ℕ → Type 0
HasManyRanges None slot = ⊥
HasManyRanges (Some topology) slot =
    (shard : ShardNodes) × IsShardAt topology slot shard × (2 ≤ length shard.ranges)

-- the address is the last replica if the slot's shard is known to have two ranges or more, else the
-- first replica
abbrev pub IsShardPick : Option Topology → Candidates → Address → Type 0
IsShardPick known c address =
    (HasManyRanges known c.slot × IsLastReplica c address)
    ⊎ (¬ (HasManyRanges known c.slot) × IsFirstReplica c address)
