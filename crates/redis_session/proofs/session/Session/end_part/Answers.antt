use Rattle.std.proofs.Common.{◌∙◌, refl, subst, sym}
use Rattle.session_core.specs.State.{End}
use Rattle.session_core.specs.declared.part.Cause.TheVariants.{Late}
use Rattle.redis_session.specs.Leads.{Leads}
use Rattle.redis_session.specs.SessionStates.{SessionState}
use Rattle.redis_session.specs.SessionView.{view_of}
use Rattle.redis_session.proofs.Leads.{leads_if}
use Rattle.redis_session.proofs.session.Session.end_part.Goals as goal

pub returns : goal.returns
returns c = let it = c.end_late in
    let before = view_of c.self.inside in
    let after = record before { machine = it.new.self } in
    subst (λ (s : SessionState). Leads s after) c.self.view_is
    (leads_if before after (End c.args.seat.call c.args.seat.part Late) it.result tt (sym c.is_over.ensures ∙ c.if-not-is_over.false) it.ensures.ended it.ensures.not refl)
