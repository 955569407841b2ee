use Rattle.std.proofs.Common.{◌≡◌}
use Rattle.redis_session.specs.Deadlines.{Forgets}
use Rattle.redis_session.specs.SessionView.{view_of}
use Rattle.redis_session.proofs.session.Session.forget_deadlines.Given as goal

abbrev pub invariant-loop : goal.invariant-loop
invariant-loop l = Forgets l.fn.self.machine l.fn.self.deadlines l.self-inside.deadlines
    × (view_of l.self-inside ≡ record l.fn.self { deadlines = l.self-inside.deadlines })
