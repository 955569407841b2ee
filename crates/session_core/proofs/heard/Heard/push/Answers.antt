use Rattle.std.proofs.Common.{length}
use Rattle.session_core.specs.Inner.Heard.{all_counts}
use Rattle.session_core.proofs.Arrivals.{same_heard, counts_more}
use Rattle.session_core.proofs.heard.Heard.push.Goals as goal

pub returns-clause-ok : goal.returns-clause-ok
returns-clause-ok c =
    let next = c.in_ok-self-inside in
    rw (← c.self.view_is) (same_heard _ _ _ _ c.in_ok-push.ensures.ok
    (counts_more (all_counts c.latest.new.earlier.items) _ next.field-0 c.args.written (length c.args.bytes.now) c.in-Some.count next.ensures.written c.in-Some.ensures.1 next.ensures.same))
