use Rattle.std.proofs.Common.{◌≡◌}
use Rattle.redis_session.proofs.session.Session.next_late.Given as goal

abbrev pub invariant-loop : goal.invariant-loop
invariant-loop l = l.self ≡ l.fn.self
