use Rattle.std.proofs.Common.{◌++◌, ◌∷◌, [], refl, arith}
use Rattle.redis_cluster.proofs.Pairs.{zip-first_changed}
use Rattle.redis_cluster.proofs.pipeline.ClusterPipeline.write_arg.Goals as goal

pub returns-clause-added : goal.returns-clause-added
returns-clause-added c =
    rw (← c.self.view_is, c.in_ok-write_arg.ensures.added)
    (zip-first_changed (λ command. command ++ c.args.arg.now ∷ []) c.self.inside.commands.items c.self.inside.ignored.items _ c.in-Some.command.now
    (omega (arith, c.in-Some.ensures.variant.0 refl, c.self.inside.commands.ok.0)) c.self.invariant c.in-Some.ensures.value)
