use Rattle.std.proofs.Common.{◌≡◌}
use Rattle.redis_session.specs.SessionView.{view_of}
use Rattle.redis_session.proofs.session.Session.unlist.Given as goal

abbrev pub invariant-loop-part : goal.invariant-loop-part
invariant-loop-part l = view_of l.self-inside ≡ l.fn.self
