use Rattle.std.proofs.Common.{◌∷◌, [], refl, subst}
use Rattle.session_core.specs.declared.link.Ticket.TheVariants as ticket
use Rattle.session_core.specs.LinkEvents as link
use Rattle.session_core.specs.State.{On}
use Rattle.redis_session.specs.Leads.{Leads}
use Rattle.redis_session.specs.SessionStates.{SessionState}
use Rattle.redis_session.specs.SessionView.{view_of}
use Rattle.redis_session.proofs.Leads.{leads_by, own_map, slots_bytes}
use Rattle.redis_session.proofs.session.Session.ask_map.Goals as goal

pub returns : goal.returns
returns c =
    let before = view_of c.self.inside in
    let after = record before { machine = c.ask_map.new.self } in
    let ready = c.is_ready_to.ensures c.if-not-is_ready_to.false in
    subst (λ (s : SessionState). Leads s after) c.self.view_is
    (leads_by before after (On c.in-Some.link (link.Put ((ticket.Map c.moved_count.result, slots_bytes) ∷ []))) tt c.in_ok-ask_map.ensures.ok
    (own_map before c.in-Some.node c.in-Some.link c.moved_count.result ready c.moved_count.ensures) refl)
