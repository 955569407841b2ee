-- What a contract sees of a shard.
use Rattle.std.specs.Prelude.{ℕ, List}
use Rattle.cluster_slots.specs.Address.{Address}

-- ranges of slots as (start, end), and the nodes that serve them
pub record ShardNodes : Type 0 where
  pub ranges : List (ℕ × ℕ)
  pub primary : Address
  pub replicas : List Address
