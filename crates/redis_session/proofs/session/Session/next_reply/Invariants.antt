use Rattle.redis_session.specs.Leads.{Leads}
use Rattle.redis_session.specs.SessionStates.{without_reply}
use Rattle.redis_session.proofs.session.Session.next_reply.Given as goal

abbrev pub invariant-loop : goal.invariant-loop
invariant-loop l = Leads (without_reply l.fn.self) l.self
