-- A map from slots to nodes, flat.
use Rattle.std.specs.Prelude.{◌≡◌, ◌<◌, ◌≤◌, ◌⊎◌, ◌↔◌, ℕ, List, ◌∷◌, [], ◌++◌, Some, Contains, map, length, slice_get, slice_index}
use Rattle.std.specs.List.{flat_map}
use Rattle.std.specs.Borrow.{Bor}
use Rattle.std.specs.BTreeMap.{BTreeMap, get}
use Rattle.std.specs.declared.cmp.Ordering.{Ordering}
use Rattle.resp_core.specs.Reply.{Reply}
use Rattle.cluster_slots.specs.Address.{Address, address_cmp, display_text}
use Rattle.cluster_slots.specs.SlotRoute.{SlotRoute}
use Rattle.cluster_slots.specs.declared.slot.SlotAddr.{SlotAddr}
use Rattle.cluster_map.specs.RangeMap.{RangeEntry, IsUncovered}
use Rattle.cluster_map.specs.SlotNodes.{SlotNodes}
use Rattle.cluster_map.specs.ReplyNode.{entries_in}
use Rattle.cluster_map.specs.RouteNode.{IsNodeOfRoute}
use Rattle.redis_bytes.specs.Replies.{IsReply, AreUnread}
use Rattle.redis_bytes.specs.declared.fault.BytesFault.{BytesFault}
use Rattle.redis_bytes.specs.declared.fault.BytesFault.TheVariants.{Memory, LineFeedInHost}
use Rattle.redis_bytes.specs.declared.tables.Table.{Table}

abbrev pub addresses : List (Bor Address) → List Address
addresses nodes = map (λ n. n.now) nodes

-- no node is new, or one is appended with this number
abbrev pub Grows : List (Bor Address) → List (Bor Address) → ℕ → Type 0
Grows old new number =
    (new ≡ old) ⊎ ((node : Bor Address) × (new ≡ old ++ node ∷ []) × (number ≡ length old))

abbrev pub by_address : Bor Address → Bor Address → Ordering
by_address a b = address_cmp a.now b.now

-- a node has a number exactly if it is at that index
abbrev pub AreNumbersOf : List (Bor Address) → BTreeMap (Bor Address) ℕ → Type 0
AreNumbersOf nodes places = (node : Bor Address) (number : ℕ)
    → (get by_address places node ≡ Some number) ↔ (slice_get (addresses nodes) number ≡ Some node.now)

-- no two nodes are the same
abbrev pub AreDistinct : List Address → Type 0
AreDistinct nodes = (i j : ℕ) (node : Address) → slice_get nodes i ≡ Some node
    → slice_get nodes j ≡ Some node → i ≡ j

-- each node is the node of some slot
abbrev pub AreUsed : List ℕ → List Address → Type 0
AreUsed numbers nodes = (number : ℕ) → number < length nodes
    → (slot : ℕ) × (slot < length numbers) × (slice_index numbers slot ≡ number)

abbrev pub line_feed : ℕ
line_feed = 10

-- no host has a line feed, so that each node has one line
abbrev pub ArePlain : List Address → Type 0
ArePlain nodes = (number : ℕ) (node : Address) → slice_get nodes number ≡ Some node
    → ¬ (Contains node.host line_feed)

-- why nodes have no lines: a host has a line feed
abbrev pub IsUnprinted : List Address → BytesFault → Type 0
IsUnprinted nodes fault = (fault ≡ Memory) ⊎ ((fault ≡ LineFeedInHost) × (number : ℕ) × (node : Address)
    × (slice_get nodes number ≡ Some node) × Contains node.host line_feed)

-- the line of a node: its host, a colon, its port, and the end of the line
abbrev pub node_line : Address → List ℕ
node_line node = display_text node ++ line_feed ∷ []

-- 65535 if no entry answers for the route's slot, else the index of the route's node among `nodes`
abbrev pub IsNodeNumber : List (RangeEntry SlotNodes) → List Address → SlotRoute → ℕ → ℕ → Type 0
IsNodeNumber entries nodes route pick number =
    ((number ≡ 65535) × IsUncovered entries route.slot)
    ⊎ ((node : Address) × (slice_get nodes number ≡ Some node)
    × IsNodeOfRoute entries route pick node)

-- For each slot the number of the node of a route there, and a line for each node. Each node is
-- listed once and serves a slot.
pub record IsTable (entries : List (RangeEntry SlotNodes)) (addr : SlotAddr) (pick : ℕ) (table : Table)
    : Type 0 where
  pub nodes : List Address
  pub few : length nodes ≤ 16384
  pub once : AreDistinct nodes
  pub used : AreUsed table.numbers.items nodes
  pub plain : ArePlain nodes
  pub lines : table.nodes.items ≡ flat_map node_line nodes
  pub all : length table.numbers.items ≡ 16384
  pub each : (slot : ℕ) → slot < 16384
      → IsNodeNumber entries nodes (record { slot = slot; addr = addr }) pick
      (slice_index table.numbers.items slot)

-- The node of a slot has a line feed in its host.
pub record HasLineFeed (entries : List (RangeEntry SlotNodes)) (addr : SlotAddr) (pick : ℕ) : Type 0
  where
    pub slot : ℕ
    pub below : slot < 16384
    pub node : Address
    pub asked : IsNodeOfRoute entries (record { slot = slot; addr = addr }) pick node
    pub has : Contains node.host line_feed

-- why there is no table: the bytes are not one reply, or a host has a line feed
abbrev pub IsNoTable : List ℕ → List ℕ → SlotAddr → ℕ → BytesFault → Type 0
IsNoTable answering bytes addr pick LineFeedInHost = (said : Reply) × IsReply said bytes
    × HasLineFeed (entries_in answering said) addr pick
IsNoTable answering bytes addr pick fault = AreUnread 1 bytes fault
