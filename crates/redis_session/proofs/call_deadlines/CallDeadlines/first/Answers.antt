use Rattle.std.proofs.Common.{rules, subst}
use Rattle.redis_session.specs.Deadlines.{BeginsAt}
use Rattle.redis_session.proofs.KeptDeadlines.{begins_at}
use Rattle.redis_session.proofs.call_deadlines.CallDeadlines.first.Goals as goal

pub returns : goal.returns
returns c = record { some = subst (BeginsAt c.self.inside.first) c.self.view_is (begins_at c.self.inside.first c.self.inside.items.items (search rules)) }
