use Rattle.redis_session.specs.Leads.{Leads}
use Rattle.redis_session.proofs.session.Session.ask_ready.Given as goal

abbrev pub invariant-loop : goal.invariant-loop
invariant-loop l = Leads l.fn.self l.self
