use Rattle.std.proofs.Common.{◌≡◌, false, subst}
use Rattle.std.specs.Prelude.{IfSome}
use Rattle.redis_session.specs.Directory.{IsNodeOf}
use Rattle.redis_session.specs.Rules.{is_several, node_in, rule_in}
use Rattle.redis_session.specs.SessionStates.{SessionState}
use Rattle.redis_session.proofs.Serving.{named_serves, primary_serves, slot_serves}
use Rattle.redis_session.proofs.session.Session.serving_node.Goals as goal

pub returns-in-Some-clause-serves : goal.returns-in-Some-clause-serves
returns-in-Some-clause-serves c = let s = c.args.self.now in
    slot_serves s c.args.seat.call c.args.seat.part c.in-Some.slot c.node_of.result c.in-Some.ensures.some
    (subst (λ (t : SessionState). IfSome c.node_of.result (λ node. IsNodeOf c.in-Some.slot node t.directory)) c.self.view_is c.node_of.ensures.node)

pub returns-in-Some-node_of-clause-serves : goal.returns-in-Some-node_of-clause-serves
returns-in-Some-node_of-clause-serves c = let s = c.args.self.now in
    named_serves s c.args.seat.call c.args.seat.part c.in-Some-node_of.node c.in_default.ensures.none
    (subst (λ (t : SessionState). c.in-Some-node_of.node ≡ node_in (rule_in t.rules c.args.seat.call) c.args.seat.part) c.self.view_is c.in-Some-node_of.ensures.some)

pub returns-in-None-clause-serves : goal.returns-in-None-clause-serves
returns-in-None-clause-serves c = let s = c.args.self.now in
    primary_serves s c.args.seat.call c.args.seat.part c.any_primary.result c.in_default.ensures.none
    (subst (λ (t : SessionState). is_several (rule_in t.rules c.args.seat.call) ≡ false) c.self.view_is c.in-None.ensures.none)
    c.any_primary.ensures
