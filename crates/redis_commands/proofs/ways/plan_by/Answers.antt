use Rattle.std.proofs.Common.{◌≡◌, Some, refl, subst, arith}
use Rattle.std.proofs.lemmas.Grind.{common_steps}
use Rattle.redis_routing.specs.Command.{Arguments}
use Rattle.redis_routing.specs.Names.{names_in}
use Rattle.redis_routing.specs.Routing.{routing, routing_of_routes}
use Rattle.redis_routing.specs.RoutingInfo.{all_masters, all_nodes, as_single_node, multi_node, single_node}
use Rattle.redis_commands.specs.Planned.{IsPlanned}
use Rattle.redis_commands.specs.Way.{IsPlanTo, planned}
use Rattle.redis_commands.proofs.Nodes.{no_node, no_primary}
use Rattle.redis_commands.proofs.Routed.{fault_to, several_fault, whole_planned, whole_to}
use Rattle.redis_commands.proofs.ways.plan_by.Goals as goal
use Rattle.redis_commands.proofs.ways.plan_by.Goals.{in-One+in_ok-single_target-in-One+in-ByAddress-1, in-One+in_ok-single_target-in-One+in-Random-1, in-Several-AllNodes-default+in_ok-nodes-in-Several-AllNodes-default+in_ok-way-in-Several-AllNodes-default, in-Several-AllMasters-default+in_ok-nodes-in-Several-AllMasters-default+in_ok-way-in-Several-AllMasters-default, in-Slots+in_ok-way-in-Slots}

pub returns-in_err-way-in-Several-AllNodes-default-clause-fault : goal.returns-in_err-way-in-Several-AllNodes-default-clause-fault
returns-in_err-way-in-Several-AllNodes-default-clause-fault g c =
    let names = names_in c.args.names in
    let args = g.R.Routable.args c.args.command.now in
    let entries = c.args.slot_map.now in
    let to = multi_node all_nodes c.in-Several-AllNodes-default.policy in
    let is : routing names args ≡ Some to = grind (arith, common_steps) in
    let nodes = c.in_ok-nodes-in-Several-AllNodes-default.nodes.items in
    let why = fault_to entries names args to is _ (several_fault entries to nodes refl (no_node entries nodes c.in_ok-nodes-in-Several-AllNodes-default.ensures.all) _ c.in_err-way-in-Several-AllNodes-default.ensures.fault) in
    grind (arith, common_steps)

pub returns-in_err-way-in-Several-AllMasters-default-clause-fault : goal.returns-in_err-way-in-Several-AllMasters-default-clause-fault
returns-in_err-way-in-Several-AllMasters-default-clause-fault g c =
    let names = names_in c.args.names in
    let args = g.R.Routable.args c.args.command.now in
    let entries = c.args.slot_map.now in
    let to = multi_node all_masters c.in-Several-AllMasters-default.policy in
    let is : routing names args ≡ Some to = grind (arith, common_steps) in
    let nodes = c.in_ok-nodes-in-Several-AllMasters-default.nodes.items in
    let why = fault_to entries names args to is _ (several_fault entries to nodes refl (no_primary entries nodes c.in_ok-nodes-in-Several-AllMasters-default.ensures.all) _ c.in_err-way-in-Several-AllMasters-default.ensures.fault) in
    grind (arith, common_steps)

pub invariant_of-result : goal.invariant_of-result
invariant_of-result g c =
    let args = g.R.Routable.args c.args.command.now in
    elim c.match-branch-2.branch [
      | in-One+in_ok-single_target-in-One+in-ByAddress-1 w ↦ rw w.way'-is (record { some = omega arith; sent = refl; answers = refl })
      | in-One+in_ok-single_target-in-One+in-Random-1 w ↦ rw w.way'-is (record { some = omega arith; sent = refl; answers = refl })
      | in-Several-AllNodes-default+in_ok-nodes-in-Several-AllNodes-default+in_ok-way-in-Several-AllNodes-default w ↦
          let made = w.in_ok-way-in-Several-AllNodes-default.ensures in
          rw w.way'-is (whole_planned _ args _ _ (made.plan args) made.some)
      | in-Several-AllMasters-default+in_ok-nodes-in-Several-AllMasters-default+in_ok-way-in-Several-AllMasters-default w ↦
          let made = w.in_ok-way-in-Several-AllMasters-default.ensures in
          rw w.way'-is (whole_planned _ args _ _ (made.plan args) made.some)
      | in-Slots+in_ok-way-in-Slots w ↦
          let split = w.in-Slots.split in
          let own : split.arguments ≡ args = grind (arith, common_steps) in
          rw w.way'-is (subst (λ (a : Arguments). IsPlanned (planned a w.in_ok-way-in-Slots.way)) own w.in_ok-way-in-Slots.ensures.each)
    ]

pub returns-clause-plan : goal.returns-clause-plan
returns-clause-plan g c =
    let args = g.R.Routable.args c.args.command.now in
    let goes = c.in_ok-new.ensures.goes in
    elim c.match-branch-2.branch [
      | in-One+in_ok-single_target-in-One+in-ByAddress-1 w ↦
          (single_node (as_single_node w.in-One.to), grind (arith, common_steps), rw w.way'-is (record { targets = w.in_ok-single_target-in-One.ensures.target; rule = refl; sent = refl; some = omega arith; untold = refl }))
      | in-One+in_ok-single_target-in-One+in-Random-1 w ↦
          (single_node (as_single_node w.in-One.to), grind (arith, common_steps), rw w.way'-is (record { targets = w.in_ok-single_target-in-One.ensures.target; rule = refl; sent = refl; some = omega arith; untold = refl }))
      | in-Several-AllNodes-default+in_ok-nodes-in-Several-AllNodes-default+in_ok-way-in-Several-AllNodes-default w ↦
          let made = w.in_ok-way-in-Several-AllNodes-default.ensures in
          (multi_node all_nodes w.in-Several-AllNodes-default.policy, grind (arith, common_steps), rw w.way'-is (whole_to _ _ _ _ args _ _ _ _ (made.plan args) made.some w.in_ok-nodes-in-Several-AllNodes-default.ensures.all refl refl))
      | in-Several-AllMasters-default+in_ok-nodes-in-Several-AllMasters-default+in_ok-way-in-Several-AllMasters-default w ↦
          let made = w.in_ok-way-in-Several-AllMasters-default.ensures in
          (multi_node all_masters w.in-Several-AllMasters-default.policy, grind (arith, common_steps), rw w.way'-is (whole_to _ _ _ _ args _ _ _ _ (made.plan args) made.some w.in_ok-nodes-in-Several-AllMasters-default.ensures.all refl refl))
      | in-Slots+in_ok-way-in-Slots w ↦
          let split = w.in-Slots.split in
          let to = routing_of_routes split.pattern (Some split.policy) split.routes in
          let own : split.arguments ≡ args = grind (arith, common_steps) in
          (to, grind (arith, common_steps), rw w.way'-is (subst (λ (a : Arguments). IsPlanTo c.args.strategy (λ s. (goal.ReadRoutingStrategy-dyn g s.now).picks s.now.1) c.args.slot_map.now c.args.pick a to (planned a w.in_ok-way-in-Slots.way)) own w.in_ok-way-in-Slots.ensures.plan))
    ]
