use Rattle.redis_session.specs.Leads.{Leads}
use Rattle.redis_session.proofs.session.Session.ask_call.Given as goal

abbrev pub invariant-loop-part : goal.invariant-loop-part
invariant-loop-part l = Leads l.fn.self l.self
