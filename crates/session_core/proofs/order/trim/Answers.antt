use Rattle.std.proofs.Common.{length, sym, ap, subst, ◌∙◌, ◌<◌}
use Rattle.session_core.specs.Order.{Order, trimmed}
use Rattle.session_core.proofs.OrderGate.{trimmed_one, trimmed_none, trim_smaller}
use Rattle.session_core.proofs.order.trim.Goals as goal

pub loop-parts-preserved : goal.loop-parts-preserved
loop-parts-preserved c = ap trimmed c.forget_first.ensures ∙ trimmed_one c.loop-parts.parts (c.is_front_done.ensures.done c.loop-parts-test.true) ∙ c.loop-parts.invariant

pub loop-parts-smaller : goal.loop-parts-smaller
loop-parts-smaller c = subst (λ (o : Order). length o.parts < length c.loop-parts.parts.parts) (sym c.forget_first.ensures) (trim_smaller c.loop-parts.parts (c.is_front_done.ensures.done c.loop-parts-test.true))

pub returns-clause-trimmed : goal.returns-clause-trimmed
returns-clause-trimmed c = sym (trimmed_none c.loop-parts.parts (c.is_front_done.ensures.not c.loop-parts-test.false)) ∙ c.loop-parts.invariant
