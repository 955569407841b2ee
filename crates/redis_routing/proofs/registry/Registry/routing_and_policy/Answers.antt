use Rattle.std.proofs.Common.{◌≡◌, Some, None, true, arith}
use Rattle.std.specs.Prelude.{IfSome}
use Rattle.std.proofs.lemmas.Grind.{common_steps}
use Rattle.redis_routing.specs.Lookup.{lookup_name}
use Rattle.redis_routing.specs.Registry.{is_registrable}
use Rattle.redis_routing.specs.declared.route_by.RouteBy.TheVariants as route_by
use Rattle.redis_routing.proofs.Registrations.{found_registrable}
use Rattle.redis_routing.proofs.SplitPolicies.{tells_split}
use Rattle.redis_routing.proofs.registry.Registry.routing_and_policy.Goals as goal

pub returns-then-is_some-clause-split : goal.returns-then-is_some-clause-split
returns-then-is_some-clause-split c =
    let may : IfSome (lookup_name c.args.self.now c.args.name.now) (λ r. is_registrable c.args.name.now r.1 ≡ true) = rw (← c.self.view_is) (found_registrable c.args.name.now c.self.inside.rows.entries c.self.invariant) in
    tells_split c.args.self.now c.args.name.now may _ _ (grind (arith, common_steps)) (grind (arith, common_steps))

pub returns-in-Some-clause-split : goal.returns-in-Some-clause-split
returns-in-Some-clause-split c =
    let may : IfSome (lookup_name c.args.self.now c.args.name.now) (λ r. is_registrable c.args.name.now r.1 ≡ true) = rw (← c.self.view_is) (found_registrable c.args.name.now c.self.inside.rows.entries c.self.invariant) in
    tells_split c.args.self.now c.args.name.now may (Some (route_by.MultiSlot c.in-Some.pattern)) (Some c.in-Some.policy) (grind (arith, common_steps)) (grind (arith, common_steps))

pub returns-in-None-clause-split : goal.returns-in-None-clause-split
returns-in-None-clause-split c =
    let may : IfSome (lookup_name c.args.self.now c.args.name.now) (λ r. is_registrable c.args.name.now r.1 ≡ true) = rw (← c.self.view_is) (found_registrable c.args.name.now c.self.inside.rows.entries c.self.invariant) in
    tells_split c.args.self.now c.args.name.now may None None (grind (arith, common_steps)) (grind (arith, common_steps))
