-- Where a command goes and what its targets answered, as the code holds them.
use Rattle.std.specs.Prelude.{◌≡◌, ◌<◌, ℕ, List, [], ◌∷◌, length, map, true, Option, None, Some, Result}
use Rattle.resp_core.specs.ErrorParts.{ErrorParts}
use Rattle.resp_core.specs.declared.value.Value.{Value}
use Rattle.cluster_slots.specs.Address.{Address}
use Rattle.cluster_map.specs.Candidates.{Candidates}
use Rattle.cluster_map.specs.RangeMap.{RangeEntry}
use Rattle.cluster_map.specs.SlotNodes.{SlotNodes}
use Rattle.cluster_map.specs.Targets.{addresses_behind}
use Rattle.redis_routing.specs.Command.{Arguments}
use Rattle.redis_routing.specs.RoutingInfo.{Routing}
use Rattle.redis_cluster.specs.Driven.{IsFirstUncovered}
use Rattle.redis_commands.specs.Rule.{ReplyRule, only_answer, by_policy, of_parts, rule_of, sent_by}
use Rattle.redis_commands.specs.Planned.{PlannedCommand}
use Rattle.redis_commands.specs.Targets.{AreTargets, is_slotless, routes_to}
use Rattle.redis_commands.specs.declared.fault.CommandPlanFault.{CommandPlanFault}
use Rattle.redis_commands.specs.declared.fault.CommandPlanFault.TheVariants.{NotRoutable, NotCovered, NoNode, Memory}
use Rattle.redis_commands.specs.declared.ways.Way.{Way}
use Rattle.redis_commands.specs.declared.ways.Way.TheVariants.{One, Several, Split}

module _ {R : Type 0} where
  abbrev pub rule_in : Way R → ReplyRule
  rule_in (One target told) = only_answer
  rule_in (Several nodes policy told) = by_policy policy
  rule_in (Split plan) = of_parts plan.value.split

  abbrev pub targets_in : Way R → List Address
  targets_in (One node told) = node.now ∷ []
  targets_in (Several nodes policy told) = addresses_behind nodes.items
  targets_in (Split plan) = plan.value.nodes

  abbrev pub sent_in : Arguments → Way R → List Arguments
  sent_in args (One target told) = args ∷ []
  sent_in args (Several nodes policy told) = map (λ node. args) nodes.items
  sent_in args (Split plan) = map (map Some) plan.value.parts

  abbrev pub told_in : Way R → List (Option (Result Value ErrorParts))
  told_in (One target told) = told ∷ []
  told_in (Several nodes policy told) = told.items
  told_in (Split plan) = plan.value.answers

  -- what a contract sees of a command with these arguments that goes this way
  abbrev pub planned : Arguments → Way R → PlannedCommand
  planned args way = record {
    rule = rule_in way;
    targets = targets_in way;
    sent = sent_in args way;
    answers = told_in way;
  }

-- the plan of a command with these arguments that goes whole to each of these targets
abbrev pub whole_plan : Arguments → ReplyRule → List Address → PlannedCommand
whole_plan args rule targets = record {
  rule = rule;
  targets = targets;
  sent = map (λ target. args) targets;
  answers = map (λ target. None) targets;
}

-- the plan of a command with these arguments that is routed there
pub record IsPlanTo {S : Type 0} (strategy : Option S) (picks_of : S → Candidates → Address → Type 0)
    (entries : List (RangeEntry SlotNodes)) (pick : ℕ) (args : Arguments) (to : Routing)
    (plan : PlannedCommand) : Type 0 where
  pub targets : AreTargets strategy picks_of entries pick to plan.targets
  pub rule : plan.rule ≡ rule_of args to
  pub sent : plan.sent ≡ sent_by args plan.rule plan.targets
  pub some : 0 < length plan.targets
  pub untold : plan.answers ≡ map (λ target. None) plan.targets

-- why a command that is routed there has no plan, except for memory
abbrev pub IsFaultTo : List (RangeEntry SlotNodes) → Routing → CommandPlanFault → Type 0
IsFaultTo entries to NotRoutable = ⊥
IsFaultTo entries to (NotCovered slot) = IsFirstUncovered entries (routes_to to) slot
IsFaultTo entries to NoNode = (is_slotless to ≡ true) × (entries ≡ [])
IsFaultTo entries to Memory = Unit {0}
