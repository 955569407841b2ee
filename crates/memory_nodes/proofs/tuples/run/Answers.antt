use Rattle.std.proofs.Common.{◌≡◌, Option, None, Some, option_map, subst, sym}
use Rattle.std.specs.Prelude.{IfSome}
use Rattle.redis_cluster.specs.MultiKey.{MultiKey, ReplyForm, form_by_policy}
use Rattle.redis_cluster.specs.Unsplit.{keyspace_after}
use Rattle.memory_nodes.specs.Cells.{keyspace_of}
use Rattle.memory_nodes.specs.Parts.{with_form}
use Rattle.memory_nodes.specs.Steps.{step}
use Rattle.memory_nodes.proofs.tuples.run.Goals as goal

-- what holds with any form
with_any : (P : MultiKey → Type 0) (f : ReplyForm → MultiKey) (form : Option ReplyForm) → ((form : ReplyForm) → P (f form)) → IfSome (option_map f form) P
with_any P f None h = tt
with_any P f (Some form) h = h form

pub returns-in-Ok-clause-cells : goal.returns-in-Ok-clause-cells
returns-in-Ok-clause-cells c =
    let IsAfter : MultiKey → Type 0 = λ command. keyspace_of c.run_tuples.new.cells ≡ keyspace_after step command (keyspace_of c.args.cells.now) in
    subst (λ o. IfSome o IsAfter) (sym c.new-whole.ensures.command) (with_any IsAfter (with_form c.new-whole.result) (form_by_policy c.new-whole.result.policy) (λ form. c.in-Ok.ensures.cells))
