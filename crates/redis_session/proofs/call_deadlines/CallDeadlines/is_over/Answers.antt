use Rattle.redis_session.proofs.KeptDeadlines.{over_by, over_never}
use Rattle.redis_session.proofs.call_deadlines.CallDeadlines.is_over.Goals as goal

pub returns-in-Some : goal.returns-in-Some
returns-in-Some c =
    over_by c.args.call c.self.inside.first c.args.now c.self.inside.items.items c.args.self.now c.self.view_is c.in-Some.deadline.now c.in-Some.ensures.some.0 c.in-Some.ensures.some.1

pub returns-in-None : goal.returns-in-None
returns-in-None c = over_never c.args.call c.self.inside.first c.args.now c.self.inside.items.items c.args.self.now c.self.view_is c.in-None.ensures.none
