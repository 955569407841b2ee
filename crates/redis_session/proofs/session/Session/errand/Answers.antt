use Rattle.std.proofs.Common.{◌≡◌, ◌∙◌, length, max, ap, refl, rules, sym, subst}
use Rattle.redis_routing.specs.Names.{Names}
use Rattle.redis_session.specs.Begins.{AreNewParts, IsErrandBy}
use Rattle.redis_session.specs.Plans.{IsCallPlan}
use Rattle.redis_session.specs.SessionStates.{SessionState, names}
use Rattle.redis_session.specs.declared.plan.CallParts.{CallParts}
use Rattle.redis_session.specs.declared.rules.ReplyRule.TheVariants.{Several}
use Rattle.redis_session.specs.Table.{group_in}
use Rattle.redis_session.proofs.Begins.{count_numbers}
use Rattle.redis_session.proofs.session.Session.errand.Goals as goal

pub returns-in_ok-parts-in-Several-clause-errand : goal.returns-in_ok-parts-in-Several-clause-errand
returns-in_ok-parts-in-Several-clause-errand c =
    let plan = c.in_ok-plan.plan in
    let by = c.in_ok-plan.ensures.planned in
    let nodes = c.in_ok-nodes-in-Several.nodes in
    let parts = c.in_ok-parts-in-Several.parts.items in
    let e = c.in_ok-parts-in-Several.ensures in
    let s = c.args.self.now in
    let numbers = c.in_ok-nodes-in-Several.ensures.numbers in
    let len : c.len.result ≡ length nodes.items = search rules in
    let count : length parts ≡ max (length (group_in c.in-Several.group s.directory.table)) 1 = e.count ∙ (c.max-count.ensures ∙ ap (λ n. max n 1) (len ∙ count_numbers nodes.items (group_in c.in-Several.group s.directory.table) s.directory.nodes numbers)) in
    record {
      words = by.0;
      read = by.1;
      plan = plan;
      planned = subst (λ (t : SessionState). IsCallPlan (names s) t.settings.added by.0 plan) c.self.view_is
          (subst (λ (n : Names). IsCallPlan n c.self.inside.settings.added by.0 plan) c.names.ensures by.2);
      by_plan = subst (λ (all : CallParts). IsErrandBy s.directory s.settings.retries c.args.request.now plan.may_refuse all (Several c.in-Several.policy nodes) parts) (sym c.in-Several.is)
          (nodes, refl, numbers, count, subst (λ (t : SessionState). AreNewParts t.settings.retries c.args.request.now c.in-Several.order plan.may_refuse parts) c.group.ensures.state e.each);
    }
