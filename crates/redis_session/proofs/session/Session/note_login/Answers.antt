use Rattle.std.proofs.Common.{◌∙◌, subst, sym}
use Rattle.redis_session.specs.Leads.{Hails}
use Rattle.redis_session.specs.SessionStates.{SessionState}
use Rattle.redis_session.specs.SessionView.{view_of}
use Rattle.redis_session.proofs.Serving.{hails_by}
use Rattle.redis_session.proofs.session.Session.note_login.Goals as goal

pub returns : goal.returns
returns c =
    subst (λ (s : SessionState). Hails c.args.link c.args.reply.now c.args.self.now s) (sym c.note_ready-2.ensures)
    (hails_by c.args.link c.args.reply.now (view_of c.self.inside) c.args.self.now c.note_ready.new.self c.self.view_is (sym c.is_error.ensures ∙ c.if-is_error.false) c.note_ready.ensures.ready c.note_ready.ensures.none)
