use Rattle.std.proofs.Common.{◌≡◌, length, map, sym, ap, ◌∙◌, arith}
use Rattle.std.proofs.lemmas.Grind.{common_steps}
use Rattle.std.proofs.lemmas.List.{length-map}
use Rattle.resp_core.specs.View.{view}
use Rattle.redis_routing.specs.RoutingInfo.{route_list}
use Rattle.redis_cluster.proofs.Made.{made_of_parts, unsplit_of_parts, as_many}
use Rattle.redis_cluster.proofs.SplitTuples.{is_split_to}
use Rattle.redis_cluster.proofs.plan.join_replies.Goals as goal

pub returns-then-len-routes-clause-unsplit : goal.returns-then-len-routes-clause-unsplit
returns-then-len-routes-clause-unsplit g c = λ form results are.
    let long = as_many c.args.split.now form results (map view c.args.replies.items) are in
    absurd (omega (arith, long, length-map c.args.replies.items view, c.len.ensures, ap length c.routes-routes.ensures.routes, length-map c.routes-routes.result.now route_list, c.if-len-routes.true))

pub returns-then-len-routes-clause-joined : goal.returns-then-len-routes-clause-joined
returns-then-len-routes-clause-joined g c = λ long.
    absurd (omega (arith, long, c.len.ensures, ap length c.routes-routes.ensures.routes, length-map c.routes-routes.result.now route_list, c.if-len-routes.true))

pub join-requires : goal.join-requires
join-requires g c = grind (arith, common_steps, length-map c.routes-routes.result.now route_list, is_split_to c.args.split.now c.routes-routes.ensures.split)

pub returns-clause-joined : goal.returns-clause-joined
returns-clause-joined g c = λ long. made_of_parts c.args.split.now c.routes-routes.ensures.split c.args.replies.items long c.join.result c.join.ensures.joined

pub returns-clause-unsplit : goal.returns-clause-unsplit
returns-clause-unsplit g c = λ form results are.
    let long : length c.args.replies.items ≡ length c.args.split.now.routes = sym (length-map c.args.replies.items view) ∙ as_many c.args.split.now form results (map view c.args.replies.items) are in
    unsplit_of_parts c.args.split.now c.routes-routes.ensures.split form results c.args.replies.items are c.join.result (made_of_parts c.args.split.now c.routes-routes.ensures.split c.args.replies.items long c.join.result c.join.ensures.joined)

pub returns-clause-count : goal.returns-clause-count
returns-clause-count g c = λ other.
    absurd (other (omega (arith, c.len.ensures, ap length c.routes-routes.ensures.routes, length-map c.routes-routes.result.now route_list, c.if-len-routes.false)))
