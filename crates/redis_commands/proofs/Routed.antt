-- A command goes where its routes say.
use Rattle.std.proofs.Common.{◌≡◌, ◌<◌, ◌⊎◌, inl, inr, ℕ, List, [], ◌∷◌, Bor, Option, None, Some, true, length, map, refl, sym, ap, subst, ◌∙◌, arith}
use Rattle.std.specs.Prelude.{◌≢◌}
use Rattle.std.specs.List.{AllZip}
use Rattle.std.proofs.lemmas.List.{length-map}
use Rattle.std.proofs.lemmas.Simd.{splat_is_map}
use Rattle.cluster_slots.specs.Address.{Address}
use Rattle.cluster_slots.specs.SlotRoute.{SlotRoute}
use Rattle.cluster_slots.specs.declared.arg_pattern.MultiSlotArgPattern.{MultiSlotArgPattern}
use Rattle.cluster_map.specs.Candidates.{Candidates}
use Rattle.cluster_map.specs.RangeMap.{RangeEntry}
use Rattle.cluster_map.specs.RouteNode.{IsRouteNode}
use Rattle.cluster_map.specs.SlotNodes.{SlotNodes}
use Rattle.redis_routing.specs.Command.{Arguments}
use Rattle.redis_routing.specs.Names.{Names}
use Rattle.redis_routing.specs.Routing.{routing, routing_of_routes}
use Rattle.redis_routing.specs.RoutingInfo.{Routing, multi_slot, multi_node}
use Rattle.redis_routing.specs.Split.{slots_of, split_part}
use Rattle.redis_routing.specs.declared.policy.ResponsePolicy.{ResponsePolicy}
use Rattle.redis_cluster.specs.Plan.{Plan, IsRoutedPlan}
use Rattle.redis_cluster.proofs.Told.{Told}
use Rattle.redis_commands.specs.Planned.{PlannedCommand, IsPlanned}
use Rattle.redis_commands.specs.Rule.{ReplyRule, of_parts, rule_of, sent_by}
use Rattle.redis_commands.specs.Targets.{AreTargets, IsCommandPlanFault, is_slotless}
use Rattle.redis_commands.specs.Way.{IsFaultTo, IsPlanTo, whole_plan}
use Rattle.redis_commands.specs.declared.fault.CommandPlanFault.{CommandPlanFault}
use Rattle.redis_commands.specs.declared.fault.CommandPlanFault.TheVariants as own

abbrev Routes : Type 0
Routes = List (SlotRoute × List ℕ)

-- routes that are not one alone are those of the parts
to_routes : (pattern : MultiSlotArgPattern) (policy : Option ResponsePolicy) (routes : Routes) → length routes ≢ 1 → routing_of_routes pattern policy routes ≡ multi_node (multi_slot routes pattern) policy
to_routes pattern policy [] many = refl
to_routes pattern policy (only ∷ []) many = absurd (many refl)
to_routes pattern policy (route ∷ other ∷ routes) many = refl

module _ (plan : Plan) (whole : IsRoutedPlan plan) (some : 0 < length plan.split.routes) where
  abbrev pub in_parts : PlannedCommand
  in_parts = record { rule = of_parts plan.split; targets = plan.nodes; sent = map (map Some) plan.parts; answers = plan.answers }

  -- the plan of a split has a part and room for an answer for each target
  pub planned_parts : IsPlanned in_parts
  planned_parts = record {
    some = omega (arith, whole.nodes, some);
    sent = ap length whole.parts ∙ length-map (slots_of plan.split.routes) (split_part plan.split) ∙ length-map plan.split.routes (λ r. r.0.slot) ∙ sym whole.nodes;
    answers = whole.answers ∙ sym whole.nodes;
  }

  -- and goes where its routes say
  pub parts_to : {S : Type 0} (strategy : Option S) (picks_of : S → Candidates → Address → Type 0) (entries : List (RangeEntry SlotNodes)) (pick : ℕ) (args : Arguments) → plan.split.arguments ≡ args → length plan.split.routes ≢ 1
      → AllZip (λ route address. IsRouteNode strategy picks_of entries pick route.0 address) plan.split.routes plan.nodes → plan.answers ≡ map (λ route. None) plan.split.routes
      → IsPlanTo strategy picks_of entries pick args (routing_of_routes plan.split.pattern (Some plan.split.policy) plan.split.routes) in_parts
  parts_to strategy picks_of entries pick args arguments many each untold =
      let split = plan.split in
      let to = to_routes split.pattern (Some split.policy) split.routes many in
      let none : Told = None in
      record {
        targets = subst (λ way. AreTargets strategy picks_of entries pick way plan.nodes) (sym to) each;
        rule = ap (λ (own : Arguments). of_parts (record { arguments = own; routes = split.routes; pattern = split.pattern; policy = split.policy })) arguments ∙ ap (rule_of args) (sym to);
        sent = whole.parts;
        some = planned_parts.some;
        untold = untold ∙ sym (splat_is_map split.routes (length split.routes) none refl) ∙ splat_is_map plan.nodes (length split.routes) none whole.nodes;
      }

-- the plan of a command that goes whole to each of some targets has room for the answer of each
pub whole_planned : (plan : PlannedCommand) (args : Arguments) (rule : ReplyRule) (targets : List Address) → plan ≡ whole_plan args rule targets → 0 < length plan.targets → IsPlanned plan
whole_planned plan args rule targets is some =
    let none : Told = None in
    subst IsPlanned (sym is) (record {
      some = subst (λ (p : PlannedCommand). 0 < length p.targets) is some;
      sent = length-map targets (λ target. args);
      answers = length-map targets (λ target. none);
    })

-- and goes there, if these are the nodes
pub whole_to : {S : Type 0} (strategy : Option S) (picks_of : S → Candidates → Address → Type 0) (entries : List (RangeEntry SlotNodes)) (pick : ℕ) (args : Arguments) (plan : PlannedCommand) (to : Routing) (rule : ReplyRule) (targets : List Address)
    → plan ≡ whole_plan args rule targets → 0 < length plan.targets → AreTargets strategy picks_of entries pick to targets → rule ≡ rule_of args to → map (λ target. args) targets ≡ sent_by args rule targets
    → IsPlanTo strategy picks_of entries pick args to plan
whole_to strategy picks_of entries pick args plan to rule targets is some each by sent =
    subst (IsPlanTo strategy picks_of entries pick args to) (sym is) (record {
      targets = each;
      rule = by;
      sent = sent;
      some = subst (λ (p : PlannedCommand). 0 < length p.targets) is some;
      untold = refl;
    })

-- why a command that is routed there has no plan
pub fault_to : (entries : List (RangeEntry SlotNodes)) (names : Names) (args : Arguments) (to : Routing) → routing names args ≡ Some to → (fault : CommandPlanFault) → IsFaultTo entries to fault → IsCommandPlanFault entries names args fault
fault_to entries names args to is own.NotRoutable why = absurd why
fault_to entries names args to is (own.NotCovered slot) why = (to, is, why)
fault_to entries names args to is own.NoNode why = (to, is, why.0, why.1)
fault_to entries names args to is own.Memory why = tt

-- why a command that goes to several nodes has no plan
pub several_fault : (entries : List (RangeEntry SlotNodes)) (to : Routing) (nodes : List (Bor Address)) → is_slotless to ≡ true → (nodes ≡ [] → entries ≡ [])
    → (fault : CommandPlanFault) → (fault ≡ own.Memory) ⊎ ((fault ≡ own.NoNode) × (nodes ≡ [])) → IsFaultTo entries to fault
several_fault entries to nodes slotless empty fault (inl memory) = subst (IsFaultTo entries to) (sym memory) tt
several_fault entries to nodes slotless empty fault (inr none) = subst (IsFaultTo entries to) (sym none.0) (slotless, empty none.1)
