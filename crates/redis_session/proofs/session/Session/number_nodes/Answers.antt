use Rattle.redis_session.specs.SessionView.{view_of}
use Rattle.redis_session.proofs.Serving.{knows_listed}
use Rattle.redis_session.proofs.session.Session.number_nodes.Goals as goal

pub loop-address-preserved : goal.loop-address-preserved
loop-address-preserved c =
    knows_listed c.args.self.now (view_of c.self.inside) c.loop-address.self c.number_of.new.self c.deref-address-items.result.now c.in_ok-unknown.unknown.items c.loop-address.address-index c.address-item.result
    c.self.view_is c.in_ok-unknown.ensures c.deref-address-items.ensures.value c.loop-address-test.true c.address-item.is c.loop-address.invariant c.number_of.ensures.state
