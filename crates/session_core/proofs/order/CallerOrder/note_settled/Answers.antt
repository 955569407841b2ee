use Rattle.std.proofs.Common.{refl, sym, subst, ap, ◌∙◌}
use Rattle.session_core.specs.declared.ordered_part.Status.TheVariants.{Settled}
use Rattle.session_core.specs.Order.{IsOnItsWay, is_effective, trimmed}
use Rattle.session_core.proofs.OrderGate.{gate_done}
use Rattle.session_core.proofs.order.CallerOrder.note_settled.Goals as goal

pub invariant_of-self : goal.invariant_of-self
invariant_of-self c =
    let s = c.self.inside in
    let r = subst (IsOnItsWay c.args.place) (sym c.self.view_is) c.requires in
    gate_done s.parts c.args.place Settled r.0 c.self.invariant r.2 refl (λ took. ap is_effective r.3) c.trim.new.parts (c.trim.ensures.trimmed ∙ ap trimmed c.change.ensures.changed) c.trim.ensures.front
