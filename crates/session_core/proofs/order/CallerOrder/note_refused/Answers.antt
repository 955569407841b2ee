use Rattle.std.proofs.Common.{sym, subst}
use Rattle.session_core.specs.Order.{Order, IsOnItsWay}
use Rattle.session_core.specs.Inner.Tied.{IsGateKept}
use Rattle.session_core.proofs.OrderGate.{gate_refused}
use Rattle.session_core.proofs.order.CallerOrder.note_refused.Goals as goal

pub invariant_of-self : goal.invariant_of-self
invariant_of-self c =
    let s = c.self.inside in
    subst (λ (o : Order). IsGateKept o) (sym c.change.ensures.changed) (gate_refused s.parts c.args.place c.self.invariant (subst (IsOnItsWay c.args.place) (sym c.self.view_is) c.requires))
