use Rattle.std.proofs.Common.{Some, MatchOption, ap, sym, subst, ◌∙◌, option_map}
use Rattle.std.proofs.lemmas.Result.{IfOk-weaker}
use Rattle.redis_commands.specs.Rule.{rule_of}
use Rattle.redis_commands.specs.Targets.{AreTargets}
use Rattle.redis_commands.proofs.plan.CommandPlan.new.Goals as goal

pub returns-clause-targets : goal.returns-clause-targets
returns-clause-targets g c =
    IfOk-weaker c.plan_by.result _ _
    (λ plan made. subst (λ found. MatchOption found ⊥ (λ to. AreTargets c.args.strategy (λ s. (goal.ReadRoutingStrategy-dyn g s.now).picks s.now.1) c.args.slot_map.now c.args.pick to plan.targets)) (sym made.1) made.2.targets)
    c.plan_by.ensures.plan

pub returns-clause-rule : goal.returns-clause-rule
returns-clause-rule g c = IfOk-weaker c.plan_by.result _ _ (λ plan made. ap Some made.2.rule ∙ sym (ap (option_map (rule_of (g.R.Routable.args c.args.command.now))) made.1)) c.plan_by.ensures.plan

pub returns-clause-sent : goal.returns-clause-sent
returns-clause-sent g c = IfOk-weaker c.plan_by.result _ _ (λ plan made. made.2.sent) c.plan_by.ensures.plan

pub returns-clause-some : goal.returns-clause-some
returns-clause-some g c = IfOk-weaker c.plan_by.result _ _ (λ plan made. made.2.some) c.plan_by.ensures.plan

pub returns-clause-untold : goal.returns-clause-untold
returns-clause-untold g c = IfOk-weaker c.plan_by.result _ _ (λ plan made. made.2.untold) c.plan_by.ensures.plan
