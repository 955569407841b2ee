use Rattle.std.proofs.Common.{◌≡◌, ◌<◌, Some, ap, sym, subst, ◌∙◌, length, arith}
use Rattle.std.specs.Prelude.{◌≢◌}
use Rattle.redis_routing.specs.Routing.{routing_of_routes}
use Rattle.redis_routing.specs.Split.{Split}
use Rattle.redis_commands.specs.Way.{IsPlanTo}
use Rattle.redis_commands.proofs.Routed.{in_parts, planned_parts, parts_to}
use Rattle.redis_commands.proofs.ways.in_parts.Goals as goal

pub returns-clause-each : goal.returns-clause-each
returns-clause-each g c =
    let made = c.in_ok-plan.ensures in
    let routes : length c.in_ok-plan.plan.split.routes ≡ length c.args.split.routes = ap (λ (s : Split). length s.routes) made.split in
    let some : 0 < length c.in_ok-plan.plan.split.routes = omega (arith, routes, c.len.ensures.len, c.len.ensures.some) in
    rw c.in_ok-new.ensures.ok (planned_parts c.in_ok-plan.plan made.plan some)

pub returns-clause-plan : goal.returns-clause-plan
returns-clause-plan g c =
    let args = c.args.split.arguments in
    let made = c.in_ok-plan.ensures in
    let plan = c.in_ok-plan.plan in
    let routes : length plan.split.routes ≡ length c.args.split.routes = ap (λ (s : Split). length s.routes) made.split in
    let some : 0 < length plan.split.routes = omega (arith, routes, c.len.ensures.len, c.len.ensures.some) in
    let many : length plan.split.routes ≢ 1 = λ one. c.if-len-eq1.false (c.len.ensures.len ∙ sym routes ∙ one) in
    let to = parts_to plan made.plan some c.args.strategy (λ s. (goal.ReadRoutingStrategy-dyn g s.now).picks s.now.1) c.args.slot_map.now c.args.pick args (ap (λ (s : Split). s.arguments) made.split) many made.nodes made.untold in
    rw c.in_ok-new.ensures.ok (subst (λ (s : Split). IsPlanTo c.args.strategy (λ s. (goal.ReadRoutingStrategy-dyn g s.now).picks s.now.1) c.args.slot_map.now c.args.pick args (routing_of_routes s.pattern (Some s.policy) s.routes) (in_parts plan made.plan some)) made.split to)
