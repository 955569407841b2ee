use Rattle.std.proofs.Common.{subst}
use Rattle.redis_session.specs.Leads.{AsksLogin}
use Rattle.redis_session.specs.SessionStates.{SessionState}
use Rattle.redis_session.specs.SessionView.{view_of}
use Rattle.redis_session.proofs.Leads.{login_asked}
use Rattle.redis_session.proofs.session.Session.ask_login.Goals as goal

pub returns-clause-ok : goal.returns-clause-ok
returns-clause-ok c =
    let before = view_of c.self.inside in
    subst (λ (s : SessionState). AsksLogin c.args.link s (record before { machine = c.ask_login.new.self })) c.self.view_is
    (login_asked c.args.link before c.ask_login.new.self c.deref.result.now c.deref.ensures.value c.in_ok-ask_login.ensures.ok)
