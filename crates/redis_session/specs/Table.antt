-- Which node serves each slot.
use Rattle.std.specs.Prelude.{◌≡◌, ◌≢◌, ◌<◌, ◌≤◌, ◌+◌, ◌↔◌, ℕ, nat_lt, if◌then◌else◌, List, Option, Some, None, MatchOption, IfSome, length}
use Rattle.std.specs.Map.{lookup}
use Rattle.std.specs.Ordering.{nat_cmp, eq_by_cmp}
use Rattle.resp_core.specs.Reply.{Reply}
use Rattle.cluster_slots.specs.Address.{Address}
use Rattle.cluster_slots.specs.declared.slot.SlotAddr.TheVariants.{Master}
use Rattle.cluster_map.specs.RangeMap.{RangeEntry}
use Rattle.cluster_map.specs.SlotNodes.{SlotNodes}
use Rattle.cluster_map.specs.EachOnce.{all_nodes_in, primaries_in}
use Rattle.cluster_map.specs.ReplyNode.{IsFound, entries_in}
use Rattle.redis_routing.specs.declared.routed.NodeGroup.{NodeGroup}
use Rattle.redis_routing.specs.declared.routed.NodeGroup.TheVariants.{AllNodes, AllMasters}
use Rattle.redis_bytes.specs.Replies.{IsReply}
use Rattle.redis_session.specs.declared.table.Moved.{Moved}

-- the ranges of slots that a reply to CLUSTER SLOTS names, each with its nodes
abbrev pub Map : Type 0
Map = List (RangeEntry SlotNodes)

-- the map of a reply, what MOVED said of slots, and how many MOVED were learned
pub record Table : Type 0 where
  pub map : Map
  pub moved : List (ℕ × Moved)
  pub count : ℕ

-- each MOVED is one of those that were learned
abbrev pub AreCounted : List (ℕ × Moved) → ℕ → Type 0
AreCounted moved count = (slot : ℕ) → IfSome (lookup (eq_by_cmp nat_cmp slot) moved) (λ m. m.count ≤ count)

-- the last MOVED for a slot, if there is one
abbrev pub moved_at : ℕ → Table → Option Moved
moved_at slot table = lookup (eq_by_cmp nat_cmp slot) table.moved

-- the node that MOVED named, else the primary that the map has for the slot
abbrev pub IsNodeBy : Option Moved → Map → ℕ → Option Address → Type 0
IsNodeBy moved map slot node =
    MatchOption moved (IsFound map (record { slot = slot; addr = Master }) 0 node) (λ m. node ≡ Some m.node)

-- the node that serves a slot, if there is one
abbrev pub IsNodeAt : ℕ → Table → Option Address → Type 0
IsNodeAt slot table node = IsNodeBy (moved_at slot table) table.map slot node

-- the slot has the node in the new table that it had in the old one
abbrev pub KeepsNode : ℕ → Table → Table → Type 0
KeepsNode slot old new = (node : Option Address) → IsNodeAt slot new node ↔ IsNodeAt slot old node

-- MOVED was learned: its slot has this node, and each other slot has what it had.
pub record LearnsMoved (slot : ℕ) (node : Address) (old new : Table) : Type 0 where
  pub moved : moved_at slot new ≡ Some (record { node = node; count = new.count })
  pub count : new.count ≡ old.count + 1
  pub others : (other : ℕ) → other ≢ slot → moved_at other new ≡ moved_at other old
  pub map : new.map ≡ old.map

-- what MOVED said, if so many were learned before it
abbrev pub later_than : ℕ → Option Moved → Option Moved
later_than asked None = None
later_than asked (Some moved) = if nat_lt asked moved.count then Some moved else None

-- A map was learned that was asked for after so many MOVED: a later MOVED stays, and each slot without
-- one has what the map says.
pub record LearnsMap (asked : ℕ) (learned : Map) (old new : Table) : Type 0 where
  pub map : new.map ≡ learned
  pub moved : (slot : ℕ) → moved_at slot new ≡ later_than asked (moved_at slot old)
  pub count : new.count ≡ old.count

-- the map names a node, and at most 65534
abbrev pub IsUsable : Map → Type 0
IsUsable map = (0 < length (all_nodes_in map)) × (length (all_nodes_in map) ≤ 65534)

-- the bytes are a reply whose map is usable
abbrev pub HasUsableMap : (answering bytes : List ℕ) → Type 0
HasUsableMap answering bytes = (said : Reply) × IsReply said bytes × IsUsable (entries_in answering said)

-- the nodes of a group, by the map
abbrev pub group_in : NodeGroup → Table → List Address
group_in AllNodes table = all_nodes_in table.map
group_in AllMasters table = primaries_in table.map
