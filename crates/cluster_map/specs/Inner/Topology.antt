-- For private functions, beside `specs/Topology.antt`.
use Rattle.std.specs.Prelude.{ℕ, ◌<◌, List, [], ◌∷◌}
use Rattle.cluster_slots.specs.Address.{Address}
use Rattle.cluster_map.specs.RangeMap.{RangeEntry, value_of}
use Rattle.cluster_map.specs.Shards.{ShardNodes}

-- the primary of a shard
abbrev pub primary_of : ShardNodes → Address
primary_of s = s.primary

-- each entry's index is below n
abbrev pub AllPlaces : ℕ → List (RangeEntry ℕ) → Type 0
AllPlaces n [] = Unit {0}
AllPlaces n (e ∷ es) = (value_of e < n) × AllPlaces n es
