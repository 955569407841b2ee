-- The shards of a map, and the map from slots to shards.
use Rattle.std.specs.Prelude.{◌≡◌, ◌↔◌, ℕ, suc, Bool, nat_eq, List, [], ◌∷◌, ◌++◌, map, filter, Some, slice_get}
use Rattle.std.specs.List.{filter_map}
use Rattle.cluster_slots.specs.Address.{Address, same_address}
use Rattle.cluster_slots.specs.declared.slot.SlotAddr.TheVariants.{Master}
use Rattle.cluster_map.specs.EachOnce.{once_by, entry_primary, primaries_in}
use Rattle.cluster_map.specs.SlotNodes.{SlotNodes}
use Rattle.cluster_map.specs.RangeMap.{RangeEntry, value_of, insert_entries, IsAnswerAt}
use Rattle.cluster_map.specs.RouteNode.{IsNodeOfRoute}
use Rattle.cluster_map.specs.Shards.{ShardNodes}

-- whether an entry has this primary
abbrev pub has_primary : Address → RangeEntry SlotNodes → Bool
has_primary primary e = same_address primary (entry_primary e)

-- the range of an entry
abbrev pub range_of_entry : {V : Type 0} → RangeEntry V → ℕ × ℕ
range_of_entry e = (e.0, e.1)

-- the replicas of the first entry
abbrev pub first_replicas : List (RangeEntry SlotNodes) → List Address
first_replicas [] = []
first_replicas (e ∷ es) = (value_of e).replicas

abbrev pub shard_with : Address → List (RangeEntry SlotNodes) → ShardNodes
shard_with primary es =
    record { ranges = map range_of_entry es; primary = primary; replicas = first_replicas es }

-- the shard of a primary: the ranges of its entries in order, and the replicas of the first entry
abbrev pub shard_of : List (RangeEntry SlotNodes) → Address → ShardNodes
shard_of es primary = shard_with primary (filter (has_primary primary) es)

-- a shard for each primary, in order of its first entry
abbrev pub shards_of : List (RangeEntry SlotNodes) → List ShardNodes
shards_of es = map (shard_of es) (primaries_in es)

-- shards, and entries whose values are indices of shards
pub record Topology : Type 0 where
  pub shards : List ShardNodes
  pub ranges : List (RangeEntry ℕ)

-- the entry of a range, with the index of its shard
abbrev pub place_entry : ℕ → ℕ × ℕ → RangeEntry ℕ
place_entry place range = (range.0, range.1, place)

-- the entries of the ranges of the shards, whose indices count from `place`
abbrev pub place_entries : ℕ → List ShardNodes → List (RangeEntry ℕ)
place_entries place [] = []
place_entries place (s ∷ ss) = map (place_entry place) s.ranges ++ place_entries (suc place) ss

-- shards, and the entries after their ranges are inserted in order
abbrev pub topology_of : List ShardNodes → Topology
topology_of ss = record { shards = ss; ranges = insert_entries [] (place_entries 0 ss) }

-- the shard whose index answers for the slot
abbrev pub IsShardAt : Topology → ℕ → ShardNodes → Type 0
IsShardAt t slot shard =
    (place : ℕ) × IsAnswerAt t.ranges slot place × (slice_get t.shards place ≡ Some shard)

-- the indices of shards that still have an entry, in order of the first entry
abbrev pub places_left : List (RangeEntry ℕ) → List ℕ
places_left es = once_by nat_eq (map value_of es)

-- the elements at these indices
abbrev pub at_places : {X : Type 0} → List X → List ℕ → List X
at_places xs places = filter_map (slice_get xs) places

-- the shards that still have a range
abbrev pub shards_left : Topology → List ShardNodes
shards_left t = at_places t.shards (places_left t.ranges)

-- for each slot number, entries and topology have the same primary, or both have none
abbrev pub Agrees : List (RangeEntry SlotNodes) → Topology → Type 0
Agrees es t =
    (slot : ℕ) (address : Address)
    → IsNodeOfRoute es (record { slot = slot; addr = Master }) 0 address
    ↔ ((shard : ShardNodes) × IsShardAt t slot shard × (shard.primary ≡ address))
