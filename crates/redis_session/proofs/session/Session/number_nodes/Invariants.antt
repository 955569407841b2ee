use Rattle.redis_session.specs.Learned.{IsInMap}
use Rattle.redis_session.specs.Leads.{Knows}
use Rattle.redis_session.proofs.session.Session.number_nodes.Given as goal

abbrev pub invariant-loop-address : goal.invariant-loop-address
invariant-loop-address l =
    Knows (IsInMap l.fn.self.directory.table) l.fn.self l.self
