use Rattle.redis_session.specs.Leads.{Leads}
use Rattle.redis_session.specs.SessionView.{view_of}
use Rattle.redis_session.proofs.session.Session.end_overtaken.Given as goal

abbrev pub invariant-loop : goal.invariant-loop
invariant-loop l = Leads l.fn.self (view_of l.self-inside)
