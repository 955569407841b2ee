use Rattle.std.proofs.Common.{◌≡◌, true, false, Some, refl, subst, sym}
use Rattle.redis_session.specs.Asks.{asked_node}
use Rattle.redis_session.specs.Leads.{Leads, Serves}
use Rattle.redis_session.specs.Peers.{IsReadyTo}
use Rattle.redis_session.specs.Targets.{IsFor}
use Rattle.redis_session.specs.SessionStates.{SessionState}
use Rattle.redis_session.specs.declared.schedule.Target.{Target}
use Rattle.redis_session.specs.SessionView.{view_of}
use Rattle.redis_session.proofs.Leads.{leads_asked}
use Rattle.redis_session.proofs.session.Session.ask_at.Goals as goal

pub returns-in-Asking : goal.returns-in-Asking
returns-in-Asking c = let e = c.ask_asking.ensures in
    let before = view_of c.self.inside in
    let after = record before { machine = c.ask_asking.new.self } in
    let ready = subst (λ (s : SessionState). IsReadyTo c.args.node c.args.link s.peers) (sym c.self.view_is) (c.is_ready_to.ensures c.if-not-is_ready_to.false) in
    let seat = c.args.seat in
    let sent = subst (λ (s : SessionState). asked_node seat.call seat.part s.asks ≡ Some c.args.node) (sym c.self.view_is)
    (subst (λ (t : Target). IsFor t c.args.self.now seat.call seat.part c.args.node) c.in-Asking.is c.requires) in
    subst (λ (s : SessionState). Leads s after) c.self.view_is
    (leads_asked before after true c.args.node c.args.link c.args.seat.call c.args.seat.part c.ask_asking.result ready (λ never. absurd (cc never)) (λ is. sent) e.asked e.not e.err refl)

pub returns-in-Serving : goal.returns-in-Serving
returns-in-Serving c = let e = c.ask.ensures in
    let seat = c.args.seat in
    let before = view_of c.self.inside in
    let after = record before { machine = c.ask.new.self } in
    let ready = subst (λ (s : SessionState). IsReadyTo c.args.node c.args.link s.peers) (sym c.self.view_is) (c.is_ready_to.ensures c.if-not-is_ready_to.false) in
    let serves = subst (λ (s : SessionState). Serves s seat.call seat.part c.args.node) (sym c.self.view_is) (subst (λ (t : Target). IsFor t c.args.self.now seat.call seat.part c.args.node) c.in-Serving.is c.requires) in
    subst (λ (s : SessionState). Leads s after) c.self.view_is
    (leads_asked before after false c.args.node c.args.link seat.call seat.part c.ask.result ready (λ is. serves) (λ never. absurd (cc never)) e.asked e.not e.err refl)
