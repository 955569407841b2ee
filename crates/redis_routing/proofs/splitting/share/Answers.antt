use Rattle.std.proofs.Common.{◌-◌, ◌≡◌, ap, sym, arith}
use Rattle.std.specs.List.{range_with_len}
use Rattle.redis_routing.specs.RoutingInfo.{route_lists}
use Rattle.redis_routing.proofs.Grouping.{with_none}
use Rattle.redis_routing.proofs.splitting.share.Goals as goal

pub returns-then-own-count : goal.returns-then-own-count
returns-then-own-count c =
    let none : c.args.count - c.args.own ≡ 0 = omega arith in
    sym (with_none (range_with_len c.args.own (c.args.count - c.args.own)) (route_lists c.args.lists.items) (ap (range_with_len c.args.own) none))
