use Rattle.std.proofs.Common.{◌≤◌, subst, arith}
use Rattle.session_core.specs.Inner.Lane.{Lane}
use Rattle.session_core.proofs.LaneLists.{when_none}
use Rattle.session_core.proofs.lane_queues.LaneQueues.overtaken.Goals as goal

pub returns-in_err-place-clause-none : goal.returns-in_err-place-clause-none
returns-in_err-place-clause-none c = when_none c.from_residual.result (λ place h. absurd (c.in_err-place.ensures.none place h))

pub returns-then-self-place-clause-none : goal.returns-then-self-place-clause-none
returns-then-self-place-clause-none c =
    let end = subst (λ (l : Lane). l.settled_end ≤ c.in_ok-place.place) c.self.view_is c.if-self-place.true in
    λ place h. (let le = c.in_ok-place.ensures.first.1 place h in omega (arith, le, end))
