use Rattle.std.proofs.Common.{Some, List, ℕ, map, ap, ◌∙◌}
use Rattle.std.proofs.lemmas.Result.{err_from_is_err_and}
use Rattle.redis_routing.specs.Names.{names_in}
use Rattle.redis_routing.specs.Routing.{routing}
use Rattle.redis_bytes.proofs.routing.route.Goals as goal

pub returns-in_err-command-clause-only : goal.returns-in_err-command-clause-only
returns-in_err-command-clause-only c = λ words is.
    let p = err_from_is_err_and c.from_residual.result c.from_residual.ensures.1 in
    rw (p.1, p.2) (c.in_err-command.ensures.only words is)

pub returns-clause-only : goal.returns-clause-only
returns-clause-only c = λ words is.
    c.in_ok-for_routable_with.ensures.routed ∙ ap (λ (ws : List (List ℕ)). routing (names_in c.args.names) (map Some ws)) (c.in_ok-command.ensures.only words is)
