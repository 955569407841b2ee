use Rattle.std.proofs.Common.{◌≡◌, Some, ap, sym, ◌∙◌, option_map}
use Rattle.redis_routing.specs.Complete.{multi_slot_routes}
use Rattle.redis_routing.specs.Names.{names_in}
use Rattle.redis_routing.specs.Split.{Split}
use Rattle.redis_routing.specs.RoutingInfo.{route_lists}
use Rattle.redis_routing.proofs.Picks.{complete_sub_commands}
use Rattle.redis_routing.proofs.split_command.multi_slot_routes.Goals as goal

pub returns-in-Some-clause-picked : goal.returns-in-Some-clause-picked
returns-in-Some-clause-picked g c =
    let args = g.R.Routable.args c.args.command.now in
    let names = names_in c.args.names in
    let is : multi_slot_routes names args ≡ Some (route_lists c.split.inside.routes.items) = sym c.in_ok-split.ensures.routes ∙ ap (option_map (λ s. s.routes)) c.in-Some.is ∙ ap (λ (s : Split). Some s.routes) (sym c.split.view_is) in
    complete_sub_commands names args (route_lists c.split.inside.routes.items) is
