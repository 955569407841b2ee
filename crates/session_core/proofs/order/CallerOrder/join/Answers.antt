use Rattle.std.proofs.Common.{sym, subst}
use Rattle.session_core.specs.Order.{MayJoin}
use Rattle.session_core.proofs.OrderJoins.{gate_joined}
use Rattle.session_core.proofs.order.CallerOrder.join.Goals as goal

pub invariant_of-self-2 : goal.invariant_of-self-2
invariant_of-self-2 c =
    let s = c.self.inside in
    gate_joined c.args.call c.args.orders.now s.parts (subst (MayJoin c.args.call c.args.orders.now) (sym c.self.view_is) c.requires) c.self.invariant c.join_all.new.parts c.in_ok-join_all.ensures.joined
