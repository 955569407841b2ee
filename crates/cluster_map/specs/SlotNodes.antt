-- The nodes of a range of slots.
use Rattle.std.specs.Prelude.{ℕ, Bool, ◌==◌, List, ◌∷◌, fold}
use Rattle.std.specs.Ordering.{on, eq_of_both}
use Rattle.std.specs.Cmp.Lexicographic.{pointwise}
use Rattle.cluster_slots.specs.Address.{Address, same_address}
use Rattle.cluster_map.specs.RangeMap.{RangeEntry, insert_entry}

-- a primary and its replicas
pub record SlotNodes : Type 0 where
  pub primary : Address
  pub replicas : List Address

-- the primary, and then the replicas
abbrev pub nodes_in : SlotNodes → List Address
nodes_in n = n.primary ∷ n.replicas

-- a range of slots, both ends included, and its nodes
pub record RangeNodes : Type 0 where
  pub start : ℕ
  pub end : ℕ
  pub master : Address
  pub replicas : List Address

abbrev pub nodes_of : RangeNodes → SlotNodes
nodes_of r = record { primary = r.master; replicas = r.replicas }

-- the entry of a range
abbrev pub range_entry : RangeNodes → RangeEntry SlotNodes
range_entry r = (r.start, r.end, nodes_of r)

-- whether two ranges have the same ends and the same nodes in the same order
abbrev pub same_range : RangeNodes → RangeNodes → Bool
same_range =
    eq_of_both (on (λ r. r.start) ◌==◌)
    (eq_of_both (on (λ r. r.end) ◌==◌) (eq_of_both (on (λ r. r.master) same_address)
    (on (λ r. r.replicas) (pointwise same_address))))

-- the entries after the ranges are inserted in order
abbrev pub insert_ranges : List (RangeEntry SlotNodes) → List RangeNodes → List (RangeEntry SlotNodes)
insert_ranges entries ranges =
    fold (λ es r. insert_entry es r.start r.end (nodes_of r)) entries ranges
