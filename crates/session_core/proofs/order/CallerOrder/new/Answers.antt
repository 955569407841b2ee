use Rattle.std.proofs.Common.{sym, subst}
use Rattle.session_core.specs.Order.{Order}
use Rattle.session_core.specs.Inner.Tied.{IsGateKept}
use Rattle.session_core.proofs.OrderGate.{gate_none}
use Rattle.session_core.proofs.order.CallerOrder.new.Goals as goal

pub invariant_of-result : goal.invariant_of-result
invariant_of-result c = subst (λ (o : Order). IsGateKept o) (sym c.new.ensures) gate_none
