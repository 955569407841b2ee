-- Where a command goes: a `RoutingInfo` as plain data.
use Rattle.std.specs.Prelude.{ℕ, List, Option, None, Some, map, option_map, string_bytes}
use Rattle.std.specs.declared.vec.Vec.{Vec}
use Rattle.std.specs.declared.alloc.Global.{Global}
use Rattle.cluster_slots.specs.SlotRoute.{SlotRoute}
use Rattle.cluster_slots.specs.declared.arg_pattern.MultiSlotArgPattern.{MultiSlotArgPattern}
use Rattle.redis_routing.specs.declared.policy.ResponsePolicy.{ResponsePolicy}
use Rattle.redis_routing.specs.declared.info.SingleNodeRoutingInfo.{SingleNodeRoutingInfo}
use Rattle.redis_routing.specs.declared.info.SingleNodeRoutingInfo.TheVariants.{Random, RandomPrimary, SpecificNode, ByAddress}
use Rattle.redis_routing.specs.declared.info.MultipleNodeRoutingInfo.{MultipleNodeRoutingInfo}
use Rattle.redis_routing.specs.declared.info.MultipleNodeRoutingInfo.TheVariants.{AllNodes, AllMasters, MultiSlot}
use Rattle.redis_routing.specs.declared.info.RoutingInfo.{RoutingInfo}
use Rattle.redis_routing.specs.declared.info.RoutingInfo.TheVariants.{SingleNode, MultiNode}

-- one node: any, any primary, one of a route's, or one by its host and port
pub data SingleNodeRouting : Type 0 where
  random : SingleNodeRouting
  random_primary : SingleNodeRouting
  specific_node : SlotRoute → SingleNodeRouting
  by_address : List ℕ → ℕ → SingleNodeRouting

-- several: all, all primaries, or one for each route, with the places of its part
pub data MultipleNodeRouting : Type 0 where
  all_nodes : MultipleNodeRouting
  all_masters : MultipleNodeRouting
  multi_slot : List (SlotRoute × List ℕ) → MultiSlotArgPattern → MultipleNodeRouting

-- one node, or several and how their replies make one, where that is known
pub data Routing : Type 0 where
  single_node : SingleNodeRouting → Routing
  multi_node : MultipleNodeRouting → Option ResponsePolicy → Routing

-- to a node of the route, or to any where there is none
abbrev pub specific_or_random : Option SlotRoute → SingleNodeRouting
specific_or_random None = random
specific_or_random (Some route) = specific_node route

-- to one node of the route, or to any where there is none, if the command goes to one
abbrev pub one_node : Option (Option SlotRoute) → Option Routing
one_node node = option_map (λ route. single_node (specific_or_random route)) node

-- a route and the places of its part
abbrev pub route_list : SlotRoute × Vec ℕ Global → SlotRoute × List ℕ
route_list route = (route.0, route.1.items)

-- routes and the places of their parts
abbrev pub route_lists : List (SlotRoute × Vec ℕ Global) → List (SlotRoute × List ℕ)
route_lists routes = map route_list routes

abbrev pub as_single_node : SingleNodeRoutingInfo → SingleNodeRouting
as_single_node Random = random
as_single_node RandomPrimary = random_primary
as_single_node (SpecificNode route) = specific_node route
as_single_node (ByAddress host port) = by_address (string_bytes host) port

abbrev pub as_multiple_nodes : MultipleNodeRoutingInfo → MultipleNodeRouting
as_multiple_nodes AllNodes = all_nodes
as_multiple_nodes AllMasters = all_masters
as_multiple_nodes (MultiSlot (routes, pattern)) = multi_slot (route_lists routes.items) pattern

abbrev pub as_routing : RoutingInfo → Routing
as_routing (SingleNode info) = single_node (as_single_node info)
as_routing (MultiNode (info, policy)) = multi_node (as_multiple_nodes info) policy

-- the slot that a command goes to, if it goes to a node of one slot
abbrev pub slot_routed : Option Routing → Option ℕ
slot_routed (Some (single_node (specific_node route))) = Some route.slot
slot_routed _ = None
