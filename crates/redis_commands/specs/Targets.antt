-- The nodes that a command goes to, by where it is routed.
use Rattle.std.specs.Prelude.{◌≡◌, ℕ, ◌%◌, Bool, true, false, List, [], ◌∷◌, Option, None, Some, map, length, slice_get}
use Rattle.std.specs.List.{AllZip}
use Rattle.cluster_slots.specs.Address.{Address}
use Rattle.cluster_slots.specs.SlotRoute.{SlotRoute}
use Rattle.cluster_map.specs.Candidates.{Candidates}
use Rattle.cluster_map.specs.EachOnce.{all_nodes_in, primaries_in}
use Rattle.cluster_map.specs.RangeMap.{RangeEntry}
use Rattle.cluster_map.specs.RouteNode.{IsRouteNode}
use Rattle.cluster_map.specs.SlotNodes.{SlotNodes}
use Rattle.redis_routing.specs.RoutingInfo.{Routing, random, specific_node, all_nodes, all_masters, multi_slot, single_node, multi_node}
use Rattle.redis_routing.specs.Command.{Arguments}
use Rattle.redis_routing.specs.Names.{Names}
use Rattle.redis_routing.specs.Routing.{routing}
use Rattle.redis_cluster.specs.Driven.{IsFirstUncovered}
use Rattle.redis_commands.specs.declared.fault.CommandPlanFault.{CommandPlanFault}
use Rattle.redis_commands.specs.declared.fault.CommandPlanFault.TheVariants.{NotRoutable, NotCovered, NoNode, Memory}

-- one of the nodes alone, at `pick` modulo their number
--
-- nodes n1, n2, n3: with pick 4 it is n2
abbrev pub IsPickOf : List Address → ℕ → List Address → Type 0
IsPickOf nodes pick targets =
    (one : Address) × (slice_get nodes (pick % length nodes) ≡ Some one) × (targets ≡ one ∷ [])

-- the nodes that a command goes to, in order; no name is routed to an address, or to any primary
--
-- `ECHO a`: any node. `GET a`: a node of its slot. `DBSIZE`: each primary once. `CONFIG SET ..`: each
-- node once. `MGET a b`: a node of the slot of `a`, and one of the slot of `b`
abbrev pub AreTargets : {S : Type 0} → Option S → (S → Candidates → Address → Type 0)
    → List (RangeEntry SlotNodes) → ℕ → Routing → List Address → Type 0
AreTargets strategy picks_of entries pick (single_node random) targets =
    IsPickOf (all_nodes_in entries) pick targets
AreTargets strategy picks_of entries pick (single_node (specific_node route)) targets =
    AllZip (IsRouteNode strategy picks_of entries pick) (route ∷ []) targets
AreTargets strategy picks_of entries pick (multi_node all_nodes policy) targets =
    targets ≡ all_nodes_in entries
AreTargets strategy picks_of entries pick (multi_node all_masters policy) targets =
    targets ≡ primaries_in entries
AreTargets strategy picks_of entries pick (multi_node (multi_slot routes pattern) policy) targets =
    AllZip (λ route target. IsRouteNode strategy picks_of entries pick route.0 target) routes targets
AreTargets strategy picks_of entries pick _ targets = ⊥

-- the routes that a command goes to
abbrev pub routes_to : Routing → List SlotRoute
routes_to (single_node (specific_node route)) = route ∷ []
routes_to (multi_node (multi_slot routes pattern) policy) = map (λ route. route.0) routes
routes_to _ = []

-- whether a command goes to nodes of the map, whatever their slots
abbrev pub is_slotless : Routing → Bool
is_slotless (single_node random) = true
is_slotless (multi_node all_nodes policy) = true
is_slotless (multi_node all_masters policy) = true
is_slotless _ = false

-- Why a command has no plan, except for memory. It goes nowhere; or the first of its routes that has
-- no node has this slot; or it goes to nodes whatever their slots, and the map has none.
abbrev pub IsCommandPlanFault : List (RangeEntry SlotNodes) → Names → Arguments → CommandPlanFault
    → Type 0
IsCommandPlanFault entries names args NotRoutable = routing names args ≡ None
IsCommandPlanFault entries names args (NotCovered slot) =
    (to : Routing) × (routing names args ≡ Some to) × IsFirstUncovered entries (routes_to to) slot
IsCommandPlanFault entries names args NoNode =
    (to : Routing) × (routing names args ≡ Some to) × (is_slotless to ≡ true) × (entries ≡ [])
IsCommandPlanFault entries names args Memory = Unit {0}
