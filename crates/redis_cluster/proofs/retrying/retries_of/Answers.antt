use Rattle.std.proofs.Common.{◌≡◌, ◌<◌, ◌∙◌, Some, ap, sym, arith, length, map, option_map, get_or}
use Rattle.std.proofs.lemmas.Grind.{common_steps}
use Rattle.std.specs.Prelude.{slice_get}
use Rattle.std.proofs.lemmas.List.{length-map}
use Rattle.std.proofs.lemmas.Option.{slice_get-get_or}
use Rattle.redis_cluster.proofs.EachTry.{one_more, route_at, as_many}
use Rattle.redis_cluster.proofs.retrying.retries_of.Goals as goal

pub loop-number-preserved : goal.loop-number-preserved
loop-number-preserved g c =
    let plan = c.args.plan.now in
    let number = c.loop-number.number in
    let held = c.routes.result.now in
    let found = get_or held c.loop-number.number c.index-routes-number.result in
    let many : length held ≡ length plan.split.routes = sym (length-map held (λ r. (r.0, r.1.items))) ∙ ap length c.routes.ensures.routes in
    let inside : number < length held = omega (arith, c.loop-number-test.true, c.len-count.ensures.len, many) in
    let at_route = route_at held plan.split.routes number found c.routes.ensures.routes (slice_get-get_or held number c.index-routes-number.result inside) in
    let at_node : slice_get plan.nodes number ≡ Some c.in-Some.node.now = sym c.node.ensures ∙ ap (option_map (λ n. n.now)) c.in-Some.is in
    rw c.in_ok-push.ensures.items
    (one_more c.args.slot_map.now c.args.retries (map (λ r. r.0) plan.split.routes) plan.nodes c.loop-number.made.items number found.0 c.in-Some.node.now c.in_ok-at.field-0 c.loop-number.invariant at_route at_node c.in_ok-at.ensures.begun)

pub returns : goal.returns
returns g c = grind (arith, common_steps, as_many)
