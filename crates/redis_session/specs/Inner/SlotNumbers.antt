-- The numbers of nodes that a directory keeps for slots.
use Rattle.std.specs.Prelude.{◌≡◌, ◌≢◌, ◌⊎◌, ℕ, List, Some, slice_get}
use Rattle.redis_session.specs.Directory.{Directory, IsNodeOf, IsPrimary}

-- what stands in the place of a number that is not kept
abbrev pub no_node : ℕ
no_node = 65535

-- each number that is kept is that of the node of its slot
abbrev pub AreNodes : List ℕ → Directory → Type 0
AreNodes numbers directory =
    (slot node : ℕ) → slice_get numbers slot ≡ Some node → node ≢ no_node → IsNodeOf slot node directory

-- Each number that is kept for a slot is that of the slot's node. The others are those of primaries.
pub record AreKept (by_slot primaries : List ℕ) (directory : Directory) : Type 0 where
  pub nodes_are : AreNodes by_slot directory
  pub primaries_are : (place node : ℕ) → slice_get primaries place ≡ Some node → IsPrimary node directory

-- This number may be kept for the slot. Each other one that is kept was kept before, for another slot.
abbrev pub SetsNumber : ℕ → ℕ → List ℕ → List ℕ → Type 0
SetsNumber slot number old new = (other node : ℕ) → slice_get new other ≡ Some node → node ≢ no_node
    → ((other ≡ slot) × (node ≡ number)) ⊎ ((other ≢ slot) × (slice_get old other ≡ Some node))
