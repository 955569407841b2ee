use Rattle.std.proofs.Common.{ap, subst, sym, ◌∙◌, [], unwrap_or, option_copied}
use Rattle.redis_routing.specs.Lookup.{lookup_name}
use Rattle.redis_routing.specs.MultiKeyNames.{TellsSplit, split_of}
use Rattle.redis_routing.specs.Policies.{policy_of}
use Rattle.redis_routing.specs.Registry.{policy_or}
use Rattle.redis_routing.specs.RouteBy.{base_routing}
use Rattle.redis_routing.proofs.SplitPolicies.{tells_split}
use Rattle.redis_routing.proofs.TableRows.{policy_unregistered, tables_with-empty}
use Rattle.redis_routing.proofs.name_rule.find_routing.Goals as goal

pub returns-in-None-clause-policy : goal.returns-in-None-clause-policy
returns-in-None-clause-policy c =
    let name = c.args.name.now in
    c.routing_and_policy-in-None.ensures.policy
    ∙ sym (ap (λ r. policy_or (base_routing name) (policy_of name) (lookup_name (unwrap_or (option_copied r) []) name)) c.in-None.is ∙ policy_unregistered name)

pub returns-in-None-clause-split : goal.returns-in-None-clause-split
returns-in-None-clause-split c =
    let name = c.args.name.now in
    let told = c.routing_and_policy-in-None.result in
    let own = c.routing_and_policy-in-None.ensures in
    subst (λ r. TellsSplit (split_of (unwrap_or (option_copied r) []) name) told.0 told.1) (sym c.in-None.is)
    (tells_split [] name tt told.0 told.1 (own.routing ∙ sym (ap (λ t. t.route_by name) tables_with-empty)) (own.policy ∙ sym (ap (λ t. t.policy name) tables_with-empty)))
