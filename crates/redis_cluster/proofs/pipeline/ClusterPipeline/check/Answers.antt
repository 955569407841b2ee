use Rattle.std.proofs.Common.{◌≡◌, ◌∙◌, ap, Some, inl, refl, arith}
use Rattle.std.proofs.lemmas.Grind.{common_steps}
use Rattle.std.proofs.lemmas.Bool.Decides.{nat_tests}
use Rattle.std.proofs.lemmas.Result.{err_from_is_err_and}
use Rattle.redis_cluster.specs.Pipeline.{first_refused, commands_of}
use Rattle.redis_routing.specs.Upper.{upper}
use Rattle.redis_cluster.proofs.Pairs.{length-pairs, commands_of-zip}
use Rattle.redis_cluster.proofs.pipeline.ClusterPipeline.check.Goals as goal

pub returns-in_err-detail-clause-refused : goal.returns-in_err-detail-clause-refused
returns-in_err-detail-clause-refused c = grind (arith, common_steps, err_from_is_err_and, commands_of-zip)

pub returns-in-Some-clause-refused : goal.returns-in-Some-clause-refused
returns-in-Some-clause-refused c =
    let found : Some (upper c.in-Some.name.now) ≡ first_refused (commands_of c.args.self.now) =
    c.in-Some.ensures ∙ ap first_refused (c.deref.ensures.value ∙ commands_of-zip _ _ _ c.self.view_is c.self.invariant) in
    rw (← found) (inl (rw (c.from.ensures, c.in_ok-detail.ensures) refl))

pub returns-clause-passed : goal.returns-clause-passed
returns-clause-passed c = grind (arith, common_steps, commands_of-zip, nat_tests, length-pairs)
