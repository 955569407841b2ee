use Rattle.std.proofs.Common.{◌≡◌, ap, subst}
use Rattle.std.specs.Prelude.{None}
use Rattle.session_core.specs.State.{State, call_at}
use Rattle.redis_session.specs.SessionStates.{SessionState}
use Rattle.redis_session.proofs.KeptDeadlines.{forgets_more}
use Rattle.redis_session.proofs.session.Session.forget_deadlines.Goals as goal

pub loop-preserved : goal.loop-preserved
loop-preserved c =
    let s = c.args.self.now in
    let kept = c.loop.invariant in
    let call = c.in-Some.first in
    let none = subst (λ (m : State). call_at call m ≡ None) (ap (λ (x : SessionState). x.machine) kept.1) c.in-None.ensures.none in (
      forgets_more s.machine s.deadlines c.loop.self-inside.deadlines c.forget_first.new.self call kept.0 c.in-Some.ensures.some none c.forget_first.ensures,
      ap (λ (x : SessionState). record x { deadlines = c.forget_first.new.self }) kept.1,
    )
