use Rattle.std.proofs.Common.{refl, subst}
use Rattle.session_core.specs.LinkEvents as link
use Rattle.session_core.specs.State.{On, Forget}
use Rattle.redis_session.specs.Leads.{Leads}
use Rattle.redis_session.specs.SessionStates.{SessionState}
use Rattle.redis_session.specs.SessionView.{view_of}
use Rattle.redis_session.proofs.Leads.{leads_by, leads_if, leads_on, leads_through}
use Rattle.redis_session.proofs.session.Session.lose_all.Goals as goal

pub loop-preserved : goal.loop-preserved
loop-preserved c =
    let before = view_of c.self-in-loop.inside in
    let after = c.lose.new.self in
    leads_through c.args.self.now before c.loop.self after c.note_lost.new.self c.loop.invariant c.self-in-loop.view_is
    (leads_by before (record before { machine = after }) (On c.args.link (link.Lose c.in-Some.ticket c.in-Some.field-0-1)) tt c.in-Some.ensures.lost tt refl) c.note_lost.ensures

pub returns : goal.returns
returns c =
    let before = view_of c.self-2.inside in
    let after = record before { machine = c.forget.new.self } in
    leads_on c.args.self.now c.loop.self after c.loop.invariant
    (subst (λ (s : SessionState). Leads s after) c.self-2.view_is
    (leads_if before after (Forget c.args.link) c.forget.result tt tt c.forget.ensures.forgot c.forget.ensures.not refl))
