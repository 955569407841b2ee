-- Each element of a list once, by first appearance, and so the primaries and the nodes of a map.
use Rattle.std.specs.Prelude.{Bool, not, List, [], ◌∷◌, filter, flat_map, map}
use Rattle.cluster_slots.specs.Address.{Address, same_address}
use Rattle.cluster_map.specs.RangeMap.{RangeEntry, value_of}
use Rattle.cluster_map.specs.SlotNodes.{SlotNodes, nodes_in}

-- each element at its first appearance, by `same`
abbrev pub once_by : {A : Type 0} → (A → A → Bool) → List A → List A
once_by same [] = []
once_by same (x ∷ xs) = x ∷ filter (λ y. not (same y x)) (once_by same xs)

abbrev pub each_once : List Address → List Address
each_once addresses = once_by same_address addresses

-- the primary of an entry
abbrev pub entry_primary : RangeEntry SlotNodes → Address
entry_primary e = (value_of e).primary

-- each primary once, in the order of its first range
abbrev pub primaries_in : List (RangeEntry SlotNodes) → List Address
primaries_in entries = each_once (map entry_primary entries)

-- each node once, in the order of its first range, of which the primary comes first
abbrev pub all_nodes_in : List (RangeEntry SlotNodes) → List Address
all_nodes_in entries = each_once (flat_map (λ (e : RangeEntry SlotNodes). nodes_in (value_of e)) entries)
