use Rattle.std.proofs.Common.{MatchOption, take}
use Rattle.std.specs.List.{AllZip}
use Rattle.cluster_map.specs.RangeMap.{IsUncovered}
use Rattle.cluster_map.specs.RouteNode.{IsNodeOfRoute, IsPickedNode}
use Rattle.cluster_map.proofs.slot_map.SlotMap.addresses_for_multi_slot.Given as goal

-- the nodes so far are those of the routes so far
abbrev pub invariant-loop-route : goal.invariant-loop-route
invariant-loop-route g l =
    AllZip (λ route node. MatchOption node (IsUncovered l.self route.0.slot) (λ address. MatchOption l.strategy
    (IsNodeOfRoute l.self route.0 l.pick address.now)
    (λ s. IsPickedNode ((goal.ReadRoutingStrategy-dyn g s.now).picks s.now.1) l.self route.0 address.now)))
    (take l.route-index l.routes) l.found.items
