use Rattle.std.proofs.Common.{◌≡◌, List, None, length, map, ap, ◌∙◌, arith}
use Rattle.std.proofs.lemmas.List.{length-map}
use Rattle.std.proofs.lemmas.Simd.{splat_is_map}
use Rattle.cluster_map.specs.Targets.{addresses_behind}
use Rattle.redis_routing.specs.Command.{Arguments}
use Rattle.redis_cluster.proofs.Told.{Told}
use Rattle.redis_commands.specs.Planned.{PlannedCommand}
use Rattle.redis_commands.specs.Rule.{by_policy}
use Rattle.redis_commands.proofs.Nodes.{same_for_each}
use Rattle.redis_commands.proofs.ways.to_each.Goals as goal

pub returns-clause-plan : goal.returns-clause-plan
returns-clause-plan g c args =
    let nodes = c.args.nodes.items in
    let made : List Arguments → List Told → PlannedCommand = λ sent told. record { rule = by_policy c.args.policy; targets = addresses_behind nodes; sent = sent; answers = told } in
    let none : Told = None in
    let many : length (addresses_behind nodes) ≡ c.len.result = grind (arith, length-map nodes (λ node. node.now)) in
    let answers : c.in_ok-answers.answers.items ≡ map (λ target. none) (addresses_behind nodes) = c.in_ok-answers.ensures ∙ splat_is_map (addresses_behind nodes) c.len.result none many in
    ap (λ sent. made sent c.in_ok-answers.answers.items) (same_for_each args nodes) ∙ ap (made (map (λ target. args) (addresses_behind nodes))) answers
