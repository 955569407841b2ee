-- Nodes of a list, each once, and the number of each.
use Rattle.std.specs.Prelude.{◌≡◌, ◌<◌, ℕ, List, map, length}
use Rattle.std.specs.List.{All, position_or_len}
use Rattle.cluster_slots.specs.Address.{Address, same_address}
use Rattle.cluster_map.specs.EachOnce.{each_once}

-- the number of the first of these nodes that is this one, or else how many they are
abbrev pub index_of : Address → List Address → ℕ
index_of node nodes = position_or_len (same_address node) nodes

-- these are some nodes, each once by first appearance, and each has its number among them
pub record AreNumbered (nodes found : List Address) (numbers : List ℕ) : Type 0 where
  pub once : found ≡ each_once nodes
  pub numbers_are : numbers ≡ map (λ node. index_of node found) nodes
  pub below : All (λ k. k < length found) numbers
