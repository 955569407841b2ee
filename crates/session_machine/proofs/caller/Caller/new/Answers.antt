use Rattle.std.proofs.Common.{ℕ, List, ap, ◌∙◌}
use Rattle.session_core.specs.Order.{Order, no_order}
use Rattle.session_machine.specs.declared.caller.Caller.{Caller}
use Rattle.session_machine.proofs.caller.Caller.new.Goals as goal

abbrev made : Order → List ℕ → Caller
made order owed = record { order = order; owed = owed; last = 0 }

pub returns : goal.returns
returns c = ap (λ (o : Order). made o c.new-2.result) c.new.ensures ∙ ap (made no_order) c.new-2.ensures
