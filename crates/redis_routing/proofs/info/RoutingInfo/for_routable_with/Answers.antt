use Rattle.std.proofs.Common.{refl, sym, subst}
use Rattle.std.proofs.lemmas.Result.{IfOk-weaker}
use Rattle.redis_routing.specs.Command.{command_name}
use Rattle.redis_routing.specs.Names.{names_of}
use Rattle.redis_routing.specs.PresentArguments.{present_arguments}
use Rattle.redis_routing.specs.Laws.{Covers, ArePartsPicked, ArePartsRouted, IfSplit}
use Rattle.redis_routing.proofs.Respelt.{respelt_routing}
use Rattle.redis_routing.proofs.SplitLaws.{of_any_name, split_covers, split_picked, split_parts}
use Rattle.redis_routing.proofs.info.RoutingInfo.for_routable_with.Goals as goal

pub returns-clause-case : goal.returns-clause-case
returns-clause-case g c = respelt_routing (names_of c.args.read_only.now c.args.registry.now) (g.R.Routable.args c.args.command.now)

pub returns-clause-cover : goal.returns-clause-cover
returns-clause-cover g c =
    let args = g.R.Routable.args c.args.command.now in
    let names = names_of c.args.read_only.now c.args.registry.now in
    IfOk-weaker c.for_command.result _ _ (λ info routed. subst (IfSplit (λ pattern routes. Covers pattern (present_arguments args) routes)) (sym routed) (of_any_name (λ pattern routes. Covers pattern (present_arguments args) routes) names args (split_covers names args) (command_name args) refl)) c.for_command.ensures

pub returns-clause-picked : goal.returns-clause-picked
returns-clause-picked g c =
    let args = g.R.Routable.args c.args.command.now in
    let names = names_of c.args.read_only.now c.args.registry.now in
    IfOk-weaker c.for_command.result _ _ (λ info routed. subst (IfSplit (λ pattern routes. ArePartsPicked args pattern routes)) (sym routed) (of_any_name (λ pattern routes. ArePartsPicked args pattern routes) names args (split_picked names args) (command_name args) refl)) c.for_command.ensures

pub returns-clause-parts : goal.returns-clause-parts
returns-clause-parts g c =
    let args = g.R.Routable.args c.args.command.now in
    let names = names_of c.args.read_only.now c.args.registry.now in
    IfOk-weaker c.for_command.result _ _ (λ info routed. subst (IfSplit (λ pattern routes. ArePartsRouted names args pattern routes)) (sym routed) (of_any_name (λ pattern routes. ArePartsRouted names args pattern routes) names args (split_parts names args) (command_name args) refl)) c.for_command.ensures

pub returns-clause-routed : goal.returns-clause-routed
returns-clause-routed g c = c.for_command.ensures
