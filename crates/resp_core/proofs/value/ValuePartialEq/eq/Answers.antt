use Rattle.std.proofs.lemmas.Bool.Decides.{same_from_decides}
use Rattle.resp_core.specs.SameReplyLaws.{same_reply-Decides}
use Rattle.resp_core.specs.View.{view}
use Rattle.resp_core.proofs.value.ValuePartialEq.eq.Goals as goal

pub returns-clause-value : goal.returns-clause-value
returns-clause-value c =
    same_from_decides c.same_value.result _ c.same_value.ensures (same_reply-Decides (view c.args.self.now) (view c.args.other.now))
