use Rattle.std.proofs.Common.{subst}
use Rattle.session_core.specs.Order.{IsTrimmed}
use Rattle.session_core.proofs.OrderGate.{first_open}
use Rattle.session_core.proofs.order.CallerOrder.is_past.Goals as goal

pub returns-clause-front : goal.returns-clause-front
returns-clause-front c = subst IsTrimmed c.self.view_is (first_open c.self.inside.parts c.self.invariant.front)
