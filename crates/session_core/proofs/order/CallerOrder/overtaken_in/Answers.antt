use Rattle.std.proofs.Common.{subst, IfNone, ℕ}
use Rattle.session_core.specs.Order.{Order, IsOvertaken, IsOf}
use Rattle.session_core.proofs.order.CallerOrder.overtaken_in.Goals as goal

pub returns-clause-none : goal.returns-clause-none
returns-clause-none c = subst (λ (o : Order). IfNone c.overtaken.result ((place : ℕ) → IsOvertaken place o → IsOf c.args.slot place o → ⊥)) c.self.view_is c.overtaken.ensures.none
