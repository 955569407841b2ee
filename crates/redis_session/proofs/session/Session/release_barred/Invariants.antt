use Rattle.std.proofs.Common.{◌≡◌}
use Rattle.redis_session.specs.SessionView.{view_of}
use Rattle.redis_session.proofs.session.Session.release_barred.Given as goal

abbrev pub invariant-loop : goal.invariant-loop
invariant-loop l = view_of l.self-inside ≡ l.fn.self
