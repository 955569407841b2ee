use Rattle.std.proofs.Common.{subst}
use Rattle.redis_session.specs.Learned.{IsInMap, LearnsReply, Sets, host_at}
use Rattle.redis_session.specs.Leads.{Knows}
use Rattle.redis_session.specs.SessionStates.{SessionState}
use Rattle.redis_session.specs.SessionView.{view_of}
use Rattle.redis_session.proofs.Leads.{sets_knows}
use Rattle.redis_session.proofs.session.Session.note_map.Goals as goal

pub returns-in-Ok-true : goal.returns-in-Ok-true
returns-in-Ok-true c =
    let before = view_of c.self.inside in
    subst (λ (s : SessionState). Sets (LearnsReply c.args.count (host_at c.args.link s) c.args.reply.now) s c.note_nodes.new.self) c.self.view_is
    (sets_knows (LearnsReply c.args.count (host_at c.args.link before) c.args.reply.now) before c.fill_table.new.self c.note_nodes.new.self c.fill_table.ensures
    (subst (λ (s : SessionState). Knows (IsInMap s.directory.table) s c.note_nodes.new.self) c.self-in-Ok-true.view_is c.note_nodes.ensures))
