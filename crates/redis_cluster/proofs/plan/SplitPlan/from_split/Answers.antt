use Rattle.std.proofs.Common.{◌≡◌, ap, sym, subst, ◌∙◌, length, map, None, arith}
use Rattle.std.proofs.lemmas.Grind.{common_steps}
use Rattle.std.specs.List.{AllZip}
use Rattle.std.proofs.lemmas.List.{length-replicate}
use Rattle.std.proofs.lemmas.Simd.{splat_is_map}
use Rattle.std.proofs.lemmas.Slice.Zip.{AllZip-long}
use Rattle.redis_cluster.proofs.Covered.{IsNode, firsts-route_lists}
use Rattle.redis_cluster.proofs.Told.{Told}
use Rattle.redis_cluster.proofs.plan.SplitPlan.from_split.Goals as goal

pub returns-in_err-nodes-clause-fault : goal.returns-in_err-nodes-clause-fault
returns-in_err-nodes-clause-fault g c = grind (arith, common_steps, firsts-route_lists)

pub invariant_of-result : goal.invariant_of-result
invariant_of-result g c =
    let is_node = IsNode c.args.strategy (λ s. (goal.ReadRoutingStrategy-dyn g s.now).picks s.now.1) c.args.slot_map.now c.args.pick in
    let nodes = map (λ n. n.now) c.in_ok-nodes.nodes.items in
    let none : Told = None in
    let many : length c.in_ok-answers.answers.items ≡ length c.args.split.routes = ap length c.in_ok-answers.ensures ∙ length-replicate _ none ∙ c.len-count.ensures.len in (
      record {
        split = c.routes.ensures.split;
        nodes = AllZip-long is_node c.args.split.routes nodes (subst (λ routes. AllZip is_node routes nodes) c.routes.ensures.routes c.in_ok-nodes.ensures.nodes);
        parts = c.in_ok-parts.ensures;
        answers = many;
      },
      c.in_ok-room.ensures.items,
      omega (arith, many, c.in_ok-room.ensures.capacity, c.len-count.ensures.len),
    )

pub returns-clause-plan : goal.returns-clause-plan
returns-clause-plan g c = (invariant_of-result g c).0

pub returns-clause-untold : goal.returns-clause-untold
returns-clause-untold g c = let none : Told = None in c.in_ok-answers.ensures ∙ splat_is_map c.args.split.routes c.len-count.result none (sym c.len-count.ensures.len)
