use Rattle.std.specs.Prelude.{ℕ}
use Rattle.redis_session.specs.Leads.{TakesReplies}
use Rattle.redis_session.proofs.session.Session.take_replies.Given as goal

abbrev pub invariant-loop : goal.invariant-loop
invariant-loop l = (count : ℕ) × TakesReplies count l.fn.link l.fn.self l.self
