use Rattle.std.proofs.Common.{◌<◌, length, refl, arith}
use Rattle.redis_cluster.proofs.Pairs.{zip-second_set, length-pairs}
use Rattle.redis_cluster.proofs.pipeline.ClusterPipeline.mark_ignored.Goals as goal

pub returns-clause-not_empty : goal.returns-clause-not_empty
returns-clause-not_empty c =
    let some : 0 < length c.self.inside.ignored.items = omega (arith, c.in-Some.ensures.variant.0 refl, c.self.inside.ignored.ok.0) in
    rw (← c.self.view_is)
    (omega (arith, some, c.self.invariant, length-pairs c.self.inside.commands.items c.self.inside.ignored.items c.self.invariant))

pub returns-clause-marked : goal.returns-clause-marked
returns-clause-marked c =
    rw (← c.self.view_is)
    (zip-second_set c.self.inside.commands.items c.self.inside.ignored.items _ _
    (omega (arith, c.in-Some.ensures.variant.0 refl, c.self.inside.ignored.ok.0, c.self.invariant)) c.self.invariant)
