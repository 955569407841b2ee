use Rattle.std.proofs.Common.{◌∙◌}
use Rattle.redis_routing.proofs.Registrations.{found_row, found_registrable}
use Rattle.redis_routing.proofs.registry.Registry.get.Goals as goal

pub returns-clause-found : goal.returns-clause-found
returns-clause-found c = rw (← c.self.view_is) (c.copied.ensures ∙ c.get.ensures.value ∙ found_row c.args.name.now c.self.inside.rows.entries)

pub returns-clause-registrable : goal.returns-clause-registrable
returns-clause-registrable c =
    rw (c.copied.ensures ∙ c.get.ensures.value ∙ found_row c.args.name.now c.self.inside.rows.entries)
    (found_registrable c.args.name.now c.self.inside.rows.entries c.self.invariant)
