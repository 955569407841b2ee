use Rattle.std.proofs.Common.{subst, arith}
use Rattle.session_core.specs.Inner.Lane.{Lane, IsFirst}
use Rattle.session_core.proofs.Ascending.{first_read, second_read}
use Rattle.session_core.proofs.lane_queues.LaneQueues.first_waiting.Goals as goal

pub returns-in-Some-clause-first : goal.returns-in-Some-clause-first
returns-in-Some-clause-first c =
    let s = c.self.inside in
    subst (λ (l : Lane). IsFirst c.in-Some.place.now l.waiting) c.self.view_is (first_read s.refused.items s.later.items c.in-Some.place.now c.self.invariant.0.waiting_ascends c.in-Some.ensures.item.3.0 c.in-Some.ensures.lookup)

pub returns-in_ok-front-in-None-clause-first : goal.returns-in_ok-front-in-None-clause-first
returns-in_ok-front-in-None-clause-first c =
    let s = c.self.inside in
    subst (λ (l : Lane). IsFirst c.in_ok-front-in-None.field-0.now l.waiting) c.self.view_is
    (second_read s.refused.items s.later.items c.in_ok-front-in-None.field-0.now c.self.invariant.0.waiting_ascends (omega (arith, c.in-None.ensures.item.3)) c.in_ok-front-in-None.ensures.item.3.0 c.in_ok-front-in-None.ensures.lookup)
