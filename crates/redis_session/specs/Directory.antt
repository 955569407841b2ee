-- The nodes that a session knows, and which of them serves each slot.
use Rattle.std.specs.Prelude.{◌≡◌, ◌++◌, ℕ, List, Some, All, Contains, map, slice_get}
use Rattle.cluster_slots.specs.Address.{Address}
use Rattle.cluster_map.specs.EachOnce.{primaries_in}
use Rattle.redis_session.specs.Table.{IsNodeAt, Table}

-- the nodes, by numbers that stay, and which serves each slot
pub record Directory : Type 0 where
  pub nodes : List Address
  pub table : Table

-- The node of this number serves the slot.
abbrev pub IsNodeOf : ℕ → ℕ → Directory → Type 0
IsNodeOf slot node directory =
    (address : Address) × (slice_get directory.nodes node ≡ Some address) × IsNodeAt slot directory.table (Some address)

-- The node of this number is one of these addresses.
abbrev pub IsKnownAmong : List Address → List Address → ℕ → Type 0
IsKnownAmong addresses nodes node = (address : Address) × (slice_get nodes node ≡ Some address) × Contains addresses address

-- The node of this number is a primary of the map.
abbrev pub IsPrimary : ℕ → Directory → Type 0
IsPrimary node directory = IsKnownAmong (primaries_in directory.table.map) directory.nodes node

-- More nodes may be known. Each of them may join.
abbrev pub Grows : (MayJoin : Address → Type 0) → List Address → List Address → Type 0
Grows MayJoin old new = (more : List Address) × (new ≡ old ++ more) × All MayJoin more

-- these are the numbers of these nodes
abbrev pub AreNumbersOf : List ℕ → List Address → List Address → Type 0
AreNumbersOf numbers addresses nodes = map (λ number. slice_get nodes number) numbers ≡ map Some addresses
