use Rattle.session_core.specs.Inner.Heard.{all_counts}
use Rattle.session_core.proofs.Arrivals.{same_heard, counts_left}
use Rattle.session_core.proofs.heard.Heard.take_front.Goals as goal

pub returns-clause-ok : goal.returns-clause-ok
returns-clause-ok c =
    let last = c.self.inside.last in
    rw (← c.self.view_is) (same_heard _ _ _ _ c.in_ok-front.ensures.ok
    (counts_left (all_counts c.self.inside.earlier.items) (all_counts c.forget-left.new.earlier.items) c.args.count last.count c.forget-left.result last.written c.forget-left.ensures.rest c.forget-left.ensures.left))
