use Rattle.std.proofs.Common.{inr, ap, sym, refl, ◌∙◌, map, take}
use Rattle.std.proofs.lemmas.List.{map_push, take_all}
use Rattle.std.proofs.lemmas.Slice.Zip.{all_zipped_more}
use Rattle.redis_routing.specs.RoutingInfo.{route_lists}
use Rattle.redis_cluster.proofs.Covered.{IsNode, covered_by_nodes, first_uncovered, route_lists_more}
use Rattle.redis_cluster.proofs.plan.nodes_of.Goals as goal

pub returns-in_default-clause-fault : goal.returns-in_default-clause-fault
returns-in_default-clause-fault g c =
    let routes = c.args.routes.now in
    let i = c.loop-route.route-index in
    let covered = covered_by_nodes c.args.strategy (λ s. (goal.ReadRoutingStrategy-dyn g s.now).picks s.now.1) c.args.slot_map.now c.args.pick
    (route_lists (take i routes)) (map (λ n. n.now) c.loop-route.nodes.items) c.loop-route.invariant in
    rw c.slot.ensures (inr (c.loop-route-item.result.0.slot, refl, first_uncovered c.args.slot_map.now routes i c.loop-route-item.result c.loop-route-test.true c.loop-route-item.is covered c.in_default.ensures.node))

pub loop-route-preserved : goal.loop-route-preserved
loop-route-preserved g c =
    let routes = c.args.routes.now in
    let i = c.loop-route.route-index in
    let node = c.in-Some.node in
    let more = route_lists_more routes i c.loop-route-item.result c.loop-route-test.true c.loop-route-item.is in
    let nodes = ap (map (λ n. n.now)) c.in_ok-push.ensures.items ∙ map_push (λ n. n.now) c.loop-route.nodes.items node in
    rw (more, nodes) (all_zipped_more (IsNode c.args.strategy (λ s. (goal.ReadRoutingStrategy-dyn g s.now).picks s.now.1) c.args.slot_map.now c.args.pick)
    (route_lists (take i routes)) (map (λ n. n.now) c.loop-route.nodes.items) (c.loop-route-item.result.0, c.loop-route-item.result.1.items) node.now c.loop-route.invariant c.in-Some.ensures.node)

pub returns-clause-nodes : goal.returns-clause-nodes
returns-clause-nodes g c = rw (sym (ap route_lists (take_all c.loop-route.route-index c.args.routes.now c.loop-route-test.false))) c.loop-route.invariant
