use Rattle.std.proofs.Common.{inl, refl, subst, sym}
use Rattle.session_core.specs.State.{Open}
use Rattle.redis_session.specs.Leads.{Ends, IsOpened, Opens}
use Rattle.redis_session.specs.SessionStates.{SessionState}
use Rattle.redis_session.specs.SessionView.{view_of}
use Rattle.redis_session.proofs.Leads.{does_by, ends_changed, opens_by}
use Rattle.redis_session.proofs.session.Session.connected.Goals as goal

pub returns-in-Err-clause-err : goal.returns-in-Err-clause-err
returns-in-Err-clause-err c =
    let before = view_of c.self.inside in
    let after = record before { machine = c.open.new.self } in
    let opened = does_by before after (Open c.in-Ok.opened before.settings.most_reply_bytes) tt c.in-Ok.ensures.ok refl in
    inl (
      c.in-Ok.opened,
      after,
      subst (λ (s : SessionState). IsOpened c.in-Ok.opened s after) c.self.view_is opened,
      (subst (λ (s : SessionState). Ends c.in-Ok.opened after s) (sym c.unreachable-in-Err.ensures) (ends_changed c.in-Ok.opened after c.begin_link.new.self c.end_link.new.self c.in-Err.ensures.err c.end_link.ensures)),
    )

pub returns-clause-ok : goal.returns-clause-ok
returns-clause-ok c =
    let before = view_of c.self.inside in
    let after = record before { machine = c.open.new.self } in
    subst (λ (s : SessionState). Opens c.in-Ok.opened c.args.node s c.step.new.self) c.self.view_is
    (opens_by c.in-Ok.opened c.args.node before after c.begin_link.new.self c.step.new.self
    (does_by before after (Open c.in-Ok.opened before.settings.most_reply_bytes) tt c.in-Ok.ensures.ok refl) c.in_default-begin_link.ensures.ok c.step.ensures)
