use Rattle.std.proofs.Common.{sym, subst}
use Rattle.redis_session.specs.Leads.{Finishes}
use Rattle.redis_session.specs.SessionStates.{SessionState}
use Rattle.redis_session.specs.SessionView.{view_of}
use Rattle.redis_session.proofs.GivenReplies.{gives_by}
use Rattle.redis_session.proofs.session.Session.give.Goals as goal

pub returns-clause-given : goal.returns-clause-given
returns-clause-given c = subst (λ (s : SessionState). Finishes c.args.caller c.args.call c.args.self.now s) (sym c.note_overdue.ensures)
    (gives_by c.args.caller c.args.call (view_of c.self.inside) c.args.self.now c.finish.new.self c.remove.new.self c.in-Ok.reply c.finish.result c.self.view_is c.requires c.finish.ensures.finished c.finish.ensures.why c.remove.ensures c.in-Ok.ensures)
