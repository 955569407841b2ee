-- From a reply to CLUSTER SLOTS to the node of a route.
use Rattle.std.specs.Prelude.{ℕ, List, [], Option, MatchOption, IsSome, IfSome, ◌↔◌}
use Rattle.resp_core.specs.Reply.{Reply}
use Rattle.cluster_slots.specs.Address.{Address}
use Rattle.cluster_slots.specs.SlotRoute.{SlotRoute}
use Rattle.cluster_map.specs.SlotNodes.{SlotNodes, insert_ranges}
use Rattle.cluster_map.specs.RangeMap.{RangeEntry, IsAnswerAt, IsUncovered}
use Rattle.cluster_map.specs.RouteNode.{IsNodeOfRoute}
use Rattle.cluster_map.specs.SlotsReply.{ranges_in}

-- what `slot_addr_for_route` finds for a route in a map of these entries
abbrev pub IsFound : List (RangeEntry SlotNodes) → SlotRoute → ℕ → Option Address → Type 0
IsFound entries route pick found =
    MatchOption found (IsUncovered entries route.slot) (IsNodeOfRoute entries route pick)

-- an entry answers for the slot
abbrev pub IsCovered : List (RangeEntry SlotNodes) → ℕ → Type 0
IsCovered entries slot = (nodes : SlotNodes) × IsAnswerAt entries slot nodes

-- the entries after the ranges of a reply are inserted in order
abbrev pub entries_in : List ℕ → Reply → List (RangeEntry SlotNodes)
entries_in answering reply = insert_ranges [] (ranges_in answering reply)

-- an address is found exactly if an entry of the reply answers for the route's slot, and then it is
-- the route's node
pub record IsFoundByReply (answering : List ℕ) (reply : Reply) (route : SlotRoute) (pick : ℕ)
    (found : Option Address) : Type 0 where
  pub there : IsSome found ↔ IsCovered (entries_in answering reply) route.slot
  pub node : IfSome found (IsNodeOfRoute (entries_in answering reply) route pick)
