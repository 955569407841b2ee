use Rattle.std.proofs.Common.{sym, subst}
use Rattle.redis_session.specs.Leads.{BeginsLink}
use Rattle.redis_session.specs.SessionStates.{SessionState}
use Rattle.redis_session.specs.SessionView.{view_of}
use Rattle.redis_session.proofs.Serving.{begins_asked, begins_ready}
use Rattle.redis_session.proofs.session.Session.begin_link.Goals as goal

pub returns-then-is_ready-clause-ok : goal.returns-then-is_ready-clause-ok
returns-then-is_ready-clause-ok c =
    subst (λ (s : SessionState). BeginsLink c.args.link c.args.node c.args.self.now s) (sym c.note_ready.ensures)
    (begins_ready c.args.link c.args.node (view_of c.self.inside) c.args.self.now c.needs_no_login-is_ready.result c.join.new.self c.self.view_is
    c.needs_no_login-is_ready.ensures c.if-is_ready.true c.in_ok-join.ensures.joined)

pub returns-clause-ok : goal.returns-clause-ok
returns-clause-ok c =
    subst (λ (s : SessionState). BeginsLink c.args.link c.args.node c.args.self.now s) (sym c.self-2.view_is)
    (begins_asked c.args.link c.args.node (view_of c.self.inside) c.args.self.now c.ask_login.new.self c.needs_no_login-is_ready.result c.join.new.self c.self.view_is
    c.needs_no_login-is_ready.ensures c.in_ok-join.ensures.joined c.in_ok-ask_login.ensures.ok)
