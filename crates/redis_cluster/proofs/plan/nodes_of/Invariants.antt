use Rattle.std.proofs.Common.{MatchOption, map, take}
use Rattle.std.specs.List.{AllZip}
use Rattle.cluster_map.specs.RouteNode.{IsNodeOfRoute, IsPickedNode}
use Rattle.redis_routing.specs.RoutingInfo.{route_lists}
use Rattle.redis_cluster.proofs.plan.nodes_of.Given as goal

-- the nodes so far are those of the routes so far
abbrev pub invariant-loop-route : goal.invariant-loop-route
invariant-loop-route g l =
    AllZip (λ route address. MatchOption l.strategy
    (IsNodeOfRoute l.slot_map route.0 l.pick address)
    (λ s. IsPickedNode ((goal.ReadRoutingStrategy-dyn g s.now).picks s.now.1) l.slot_map route.0 address))
    (route_lists (take l.route-index l.routes)) (map (λ n. n.now) l.nodes.items)
