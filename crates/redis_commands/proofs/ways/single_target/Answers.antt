use Rattle.std.proofs.Common.{refl, sym, subst, arith}
use Rattle.std.proofs.lemmas.Grind.{common_steps}
use Rattle.std.proofs.lemmas.Result.{IfErr-weaker}
use Rattle.redis_routing.specs.RoutingInfo.{random, single_node}
use Rattle.redis_commands.specs.Way.{IsFaultTo}
use Rattle.redis_commands.proofs.Nodes.{no_node, only_uncovered}
use Rattle.redis_commands.proofs.ways.single_target.Goals as goal

pub returns-in_ok-addresses_for_all_nodes-in-Random-clause-fault : goal.returns-in_ok-addresses_for_all_nodes-in-Random-clause-fault
returns-in_ok-addresses_for_all_nodes-in-Random-clause-fault g c =
    let entries = c.args.slot_map.now in
    let all = c.in_ok-addresses_for_all_nodes-in-Random in
    rw c.in-Random.is (IfErr-weaker c.picked.result _ (IsFaultTo entries (single_node random)) (λ fault why. subst (IsFaultTo entries (single_node random)) (sym why.0) (refl, no_node entries all.field-0.items all.ensures.all why.1)) c.picked.ensures.fault)

pub returns-in-None-clause-fault : goal.returns-in-None-clause-fault
returns-in-None-clause-fault g c = grind (arith, common_steps, only_uncovered)
