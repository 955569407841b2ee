use Rattle.std.proofs.Common.{◌≡◌, ◌-◌, ◌++◌}
use Rattle.std.specs.List.{range_with_len}
use Rattle.std.specs.Vec.Iter.{into_iter_items}
use Rattle.redis_routing.specs.Groups.{with_shared}
use Rattle.redis_routing.specs.RoutingInfo.{route_lists}
use Rattle.redis_routing.proofs.splitting.share.Given as goal

abbrev pub invariant-loop-route : goal.invariant-loop-route
invariant-loop-route l =
    route_lists l.routes.items ++ with_shared (range_with_len l.own (l.count - l.own)) (route_lists (into_iter_items l.route-iterator))
    ≡ with_shared (range_with_len l.own (l.count - l.own)) (route_lists l.fn.lists.items)
