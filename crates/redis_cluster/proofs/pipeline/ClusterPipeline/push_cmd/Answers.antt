use Rattle.redis_cluster.proofs.Pairs.{zip-push}
use Rattle.redis_cluster.proofs.pipeline.ClusterPipeline.push_cmd.Goals as goal

pub returns-clause-added : goal.returns-clause-added
returns-clause-added c =
    rw (← c.self.view_is)
    (rw (c.push_reserved.ensures.items, c.reserve.ensures.items, c.in_ok-push.ensures.items, c.in_ok-write_arg.ensures.added, c.new-command.ensures)
    (zip-push c.self.inside.commands.items c.self.inside.ignored.items _ _ c.self.invariant))
