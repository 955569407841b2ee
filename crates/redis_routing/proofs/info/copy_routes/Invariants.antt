use Rattle.std.proofs.Common.{◌≡◌, take}
use Rattle.redis_routing.specs.RoutingInfo.{route_lists}
use Rattle.redis_routing.proofs.info.copy_routes.Given as goal

abbrev pub invariant-loop-route : goal.invariant-loop-route
invariant-loop-route l = route_lists l.copies.items ≡ route_lists (take l.route-index l.route-items)
