use Rattle.std.proofs.Common.{length, ap, arith}
use Rattle.std.proofs.lemmas.List.{length-map}
use Rattle.redis_routing.specs.PresentArguments.{present_arguments}
use Rattle.redis_routing.specs.RoutingInfo.{route_list}
use Rattle.redis_routing.proofs.Picks.{complete_fits}
use Rattle.redis_routing.proofs.SomeRoutes.{some_route}
use Rattle.redis_routing.proofs.split_command.SplitCommand.len.Goals as goal

pub returns-clause-some : goal.returns-clause-some
returns-clause-some g c =
    let held = c.self.inside in
    let present = present_arguments (g.R.Routable.args held.command.now) in
    let some = some_route c.self.invariant.0.is_read held.pattern present (complete_fits held.pattern (length present) c.self.invariant.0.complete) in
    omega (arith, some, ap length c.self.invariant.0.routes, length-map held.routes.items route_list, c.len.ensures)
