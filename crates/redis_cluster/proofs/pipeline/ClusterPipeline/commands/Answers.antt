use Rattle.std.proofs.Common.{sym}
use Rattle.std.proofs.lemmas.Slice.Zip.{firsts-zip}
use Rattle.redis_cluster.proofs.pipeline.ClusterPipeline.commands.Goals as goal

pub returns : goal.returns
returns c = rw (← c.self.view_is) (sym (firsts-zip _ _ c.self.invariant))
