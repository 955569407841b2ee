use Rattle.std.proofs.Common.{◌∙◌, sym, subst, true, ◌≡◌}
use Rattle.std.specs.Prelude.{IfSome}
use Rattle.redis_routing.specs.Registry.{is_registrable}
use Rattle.redis_routing.proofs.NineNames.{registered_alone}
use Rattle.memory_nodes.proofs.whole_command.registered_as.Goals as goal

pub returns : goal.returns
returns c =
    c.get.ensures.found
    ∙ sym (registered_alone c.args.registry.now c.args.name.now (subst (λ row. IfSome row (λ r. is_registrable c.args.name.now r.1 ≡ true)) c.get.ensures.found c.get.ensures.registrable))
