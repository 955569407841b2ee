use Rattle.std.proofs.Common.{◌≡◌, ◌⊎◌, ℕ, List, Option, Some, IfOk, IfSome, Result, Ok, Err, ap, sym, subst, ◌∙◌, map, option_map, arith}
use Rattle.std.proofs.lemmas.Result.{IfErr-weaker, IfOk-weaker}
use Rattle.cluster_slots.specs.SlotRoute.{SlotRoute}
use Rattle.cluster_map.specs.SlotNodes.{SlotNodes}
use Rattle.cluster_map.specs.RangeMap.{RangeEntry}
use Rattle.redis_routing.specs.Command.{Arguments, command_name}
use Rattle.redis_routing.specs.Names.{Names, names_in}
use Rattle.redis_routing.specs.Complete.{multi_slot_routes, pattern_by_name}
use Rattle.redis_routing.specs.Split.{Split, HasJoiningPolicy, policy_by_name}
use Rattle.redis_cluster.specs.Driven.{IsFirstUncovered, request}
use Rattle.redis_cluster.specs.Faults.{IsPlanFault}
use Rattle.redis_cluster.specs.MultiKey.{MultiKey}
use Rattle.redis_cluster.specs.Plan.{Plan, IsRoutedPlan}
use Rattle.redis_cluster.specs.Ready.{IsPlanNode, IsPlanOf}
use Rattle.redis_cluster.specs.declared.fault.PlanFault.{PlanFault}
use Rattle.redis_cluster.specs.declared.fault.PlanFault.TheVariants.{Memory, NotCovered}
use Rattle.redis_cluster.proofs.CommandParts.{routes_are}
use Rattle.redis_cluster.proofs.Constructors.{of_some}
use Rattle.redis_cluster.proofs.Covered.{covered_by_nodes}
use Rattle.redis_cluster.proofs.Planned.{joining_routes, made_parts, planned, ready}
use Rattle.redis_cluster.proofs.Wider.{own_nodes}
use Rattle.redis_cluster.proofs.plan.SplitPlan.new.Goals as goal

-- the split is that of a command of these arguments
record IsSplitOf (names : Names) (args : Arguments) (split : Split) : Type 0 where
  arguments : split.arguments ≡ args
  routes : Some split.routes ≡ multi_slot_routes names args
  pattern : Some split.pattern ≡ pattern_by_name names.registered (command_name args)
  policy : Some split.policy ≡ policy_by_name names.registered (command_name args)

-- why it has no plan
fault_of_split : (entries : List (RangeEntry SlotNodes)) (names : Names) (args : Arguments) (routes : List (SlotRoute × List ℕ)) → Some routes ≡ multi_slot_routes names args → IfSome (multi_slot_routes names args) (λ routes. HasJoiningPolicy names.registered args) → (fault : PlanFault)
    → (fault ≡ Memory) ⊎ ((slot : ℕ) × (fault ≡ NotCovered slot) × IsFirstUncovered entries (map (λ r. r.0) routes) slot) → IsPlanFault entries names args fault
fault_of_split entries names args routes of_command joins fault why = grind (arith, routes_are)

-- what follows of a plan that was made of it
of_plan : {E : Type 0} (names : Names) (args : Arguments) (found : Option Split) (split : Split) (Nodes P : Plan → Type 0) (r : Result Plan E) → found ≡ Some split
    → option_map (λ s. s.routes) found ≡ multi_slot_routes names args → IfSome found (λ s. s.arguments ≡ args) → IfSome found (λ s. Some s.pattern ≡ pattern_by_name names.registered (command_name args))
    → IfSome found (λ s. Some s.policy ≡ policy_by_name names.registered (command_name args)) → IfOk r (λ plan. plan.split ≡ split) → IfOk r Nodes → IfOk r IsRoutedPlan
    → ((plan : Plan) → IsSplitOf names args plan.split → Nodes plan → IsRoutedPlan plan → P plan) → IfOk r P
of_plan names args found split Nodes P (Ok plan) is routes arguments pattern policy same nodes whole gives =
    let of : IsSplitOf names args split = record { arguments = of_some _ found split is arguments; routes = sym (ap (option_map (λ s. s.routes)) is) ∙ routes; pattern = of_some _ found split is pattern; policy = of_some _ found split is policy } in
    gives plan (subst (IsSplitOf names args) (sym same) of) nodes whole
of_plan names args found split Nodes P (Err e) is routes arguments pattern policy same nodes whole gives = tt

pub returns-in-Some-clause-slots : goal.returns-in-Some-clause-slots
returns-in-Some-clause-slots g c =
    let names = names_in c.args.names in
    let args = g.R.Routable.args c.args.command.now in
    let new = c.in_ok-split.ensures in
    let made = c.from_split.ensures in
    of_plan names args c.in_ok-split.field-0 c.in-Some.split _ _ c.from_split.result c.in-Some.is new.routes new.arguments new.pattern new.policy made.split made.nodes made.plan
    (λ plan of nodes whole. ap (option_map (map (λ r. r.0))) of.routes ∙ routes_are names args (joining_routes names args plan.split of.routes of.policy whole.split))

pub returns-in-Some-clause-parts : goal.returns-in-Some-clause-parts
returns-in-Some-clause-parts g c =
    let names = names_in c.args.names in
    let args = g.R.Routable.args c.args.command.now in
    let new = c.in_ok-split.ensures in
    let made = c.from_split.ensures in
    of_plan names args c.in_ok-split.field-0 c.in-Some.split _ _ c.from_split.result c.in-Some.is new.routes new.arguments new.pattern new.policy made.split made.nodes made.plan
    (λ plan of nodes whole. made_parts names args plan.split plan.parts of.arguments of.routes of.pattern of.policy whole.split whole.parts)

pub returns-in-Some-clause-covered : goal.returns-in-Some-clause-covered
returns-in-Some-clause-covered g c =
    IfOk-weaker c.from_split.result _ _
    (λ plan nodes. covered_by_nodes c.args.strategy (λ s. (goal.ReadRoutingStrategy-dyn g s.now).picks s.now.1) c.args.slot_map.now c.args.pick plan.split.routes plan.nodes nodes)
    c.from_split.ensures.nodes

pub returns-in-Some-clause-command : goal.returns-in-Some-clause-command
returns-in-Some-clause-command g c =
    let names = names_in c.args.names in
    let args = g.R.Routable.args c.args.command.now in
    let new = c.in_ok-split.ensures in
    let made = c.from_split.ensures in
    of_plan names args c.in_ok-split.field-0 c.in-Some.split _ _ c.from_split.result c.in-Some.is new.routes new.arguments new.pattern new.policy made.split made.nodes made.plan
    (λ plan of nodes whole registered same.
    let is = planned names args plan of.arguments of.routes of.pattern of.policy whole in
    subst (λ known. (command : MultiKey) × IsPlanOf known command plan) same (is.0, is.2))

pub returns-in-Some-clause-ready : goal.returns-in-Some-clause-ready
returns-in-Some-clause-ready g c =
    let names = names_in c.args.names in
    let args = g.R.Routable.args c.args.command.now in
    let new = c.in_ok-split.ensures in
    let made = c.from_split.ensures in
    of_plan names args c.in_ok-split.field-0 c.in-Some.split _ _ c.from_split.result c.in-Some.is new.routes new.arguments new.pattern new.policy made.split made.nodes made.plan
    (λ plan of nodes whole order.
    ready (IsPlanNode plan) (request args names c.args.slot_map.now order) plan of.arguments of.routes of.pattern of.policy whole (own_nodes plan whole.nodes)
    (covered_by_nodes c.args.strategy (λ s. (goal.ReadRoutingStrategy-dyn g s.now).picks s.now.1) c.args.slot_map.now c.args.pick plan.split.routes plan.nodes nodes))

pub returns-in-Some-clause-fault : goal.returns-in-Some-clause-fault
returns-in-Some-clause-fault g c =
    let names = names_in c.args.names in
    let args = g.R.Routable.args c.args.command.now in
    let new = c.in_ok-split.ensures in
    let split = c.in-Some.split in
    let routes : Some split.routes ≡ multi_slot_routes names args = sym (ap (option_map (λ s. s.routes)) c.in-Some.is) ∙ new.routes in
    let joins = joining_routes names args split routes (of_some _ c.in_ok-split.field-0 split c.in-Some.is new.policy) c.from_split.ensures.whole in
    IfErr-weaker c.from_split.result _ _ (λ fault why. fault_of_split c.args.slot_map.now names args split.routes routes joins fault why) c.from_split.ensures.fault
