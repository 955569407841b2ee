use Rattle.std.proofs.Common.{◌≡◌, ◌∙◌, true, refl, subst, sym}
use Rattle.session_core.specs.State.{End}
use Rattle.session_core.specs.declared.part.Cause.TheVariants.{NoNode}
use Rattle.redis_session.specs.Leads.{Leads, may_end}
use Rattle.redis_session.specs.SessionStates.{SessionState}
use Rattle.redis_session.specs.SessionView.{view_of}
use Rattle.redis_session.proofs.Leads.{leads_if}
use Rattle.redis_session.proofs.session.Session.end_without_node.Goals as goal

pub returns-then-may_lack_node : goal.returns-then-may_lack_node
returns-then-may_lack_node c = let it = c.end_without_node in
    let before = view_of c.self.inside in
    let after = record before { machine = it.new.self } in
    subst (λ (s : SessionState). Leads s after) c.self.view_is
    (leads_if before after (End c.args.seat.call c.args.seat.part NoNode) it.result tt (subst (λ (s : SessionState). may_end s c.args.seat.call NoNode ≡ true) (sym c.self.view_is) (sym c.may_lack_node.ensures ∙ c.if-may_lack_node.true)) it.ensures.ended it.ensures.not refl)
