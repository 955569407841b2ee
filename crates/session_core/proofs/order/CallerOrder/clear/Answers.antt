use Rattle.std.proofs.Common.{sym, subst}
use Rattle.session_core.specs.Order.{Order}
use Rattle.session_core.specs.Inner.Tied.{IsGateKept}
use Rattle.session_core.proofs.OrderGate.{gate_none}
use Rattle.session_core.proofs.order.CallerOrder.clear.Goals as goal

pub invariant_of-self : goal.invariant_of-self
invariant_of-self c = subst (λ (o : Order). IsGateKept o) (sym c.clear.ensures) gate_none
