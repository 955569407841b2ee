use Rattle.std.proofs.Common.{◌≡◌, Some, ap, sym, subst, ◌∙◌}
use Rattle.redis_routing.specs.MultiKeyNames.{TellsSplit, split_of}
use Rattle.redis_routing.specs.Policies.{joins_parts}
use Rattle.redis_routing.proofs.SplitPolicies.{not_split}
use Rattle.redis_routing.proofs.registry.Registry.pattern_and_policy.Goals as goal

pub unreachable-requires : goal.unreachable-requires
unreachable-requires c =
    let X = c.routing_and_policy-route_by in
    let told = subst (λ w. TellsSplit (split_of c.args.self.now c.args.name.now) w X.result.1) (c.in-Some.is ∙ ap Some c.in-MultiSlot.is) X.ensures.split in
    cc (told.1, c.in_default-policy.is)

pub returns-clause-joins : goal.returns-clause-joins
returns-clause-joins c =
    let X = c.routing_and_policy-route_by in
    let told = subst (λ w. TellsSplit (split_of c.args.self.now c.args.name.now) w X.result.1) (c.in-Some.is ∙ ap Some c.in-MultiSlot.is) X.ensures.split in
    let own : told.0 ≡ c.in-Some-policy.policy = cc (told.1, c.in-Some-policy.is) in
    sym (ap joins_parts own) ∙ told.2

pub returns-clause-found : goal.returns-clause-found
returns-clause-found c =
    let X = c.routing_and_policy-route_by in
    let told = subst (λ w. TellsSplit (split_of c.args.self.now c.args.name.now) w X.result.1) (c.in-Some.is ∙ ap Some c.in-MultiSlot.is) X.ensures.split in
    let own : told.0 ≡ c.in-Some-policy.policy = cc (told.1, c.in-Some-policy.is) in
    sym (told.3 ∙ ap (λ p. Some (c.in-MultiSlot.pattern, p)) own)

pub returns-in_default-clause-found : goal.returns-in_default-clause-found
returns-in_default-clause-found c =
    let X = c.routing_and_policy-route_by in
    sym (subst (λ w. TellsSplit (split_of c.args.self.now c.args.name.now) w X.result.1) c.in_default.is X.ensures.split)

pub returns-in_default-route_by-clause-found : goal.returns-in_default-route_by-clause-found
returns-in_default-route_by-clause-found c =
    let X = c.routing_and_policy-route_by in
    sym (not_split (split_of c.args.self.now c.args.name.now) c.in-Some.route_by X.result.1 c.in_default-route_by.not-MultiSlot (subst (λ w. TellsSplit (split_of c.args.self.now c.args.name.now) w X.result.1) c.in-Some.is X.ensures.split))
