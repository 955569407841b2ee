use Rattle.std.proofs.Common.{◌∙◌}
use Rattle.redis_cluster.proofs.Refusals.{text_of-IsUtf8}
use Rattle.redis_cluster.proofs.pipeline.refusals.as_text.Goals as goal

pub returns-in-Ok : goal.returns-in-Ok
returns-in-Ok c = c.in-Ok.ensures.cases.0 ∙ text_of-IsUtf8 c.args.bytes.now c.in-Ok.ensures.cases.1
