use Rattle.std.proofs.Common.{◌∙◌}
use Rattle.redis_routing.proofs.Registrations.{cloned_rows, cloned_may_stand}
use Rattle.redis_routing.proofs.registry.RegistryClone.clone.Goals as goal

pub invariant_of-result : goal.invariant_of-result
invariant_of-result c = cloned_may_stand c.self.inside.rows.entries c.in_ok-clone.field-0.entries c.in_ok-clone.ensures.cases ∙ c.self.invariant

pub returns : goal.returns
returns c = record { cases = cloned_rows c.self.inside.rows.entries c.in_ok-clone.field-0.entries c.in_ok-clone.ensures.cases ∙ c.self.view_is }
