use Rattle.std.proofs.Common.{◌≡◌, true, false, refl, sym, subst, ap, ◌∙◌}
use Rattle.session_core.specs.declared.ordered_part.Status.TheVariants.{Unsent}
use Rattle.session_core.specs.Order.{IsWaiting, trimmed}
use Rattle.session_core.proofs.OrderGate.{gate_done}
use Rattle.session_core.proofs.order.CallerOrder.note_unsent.Goals as goal

pub invariant_of-self : goal.invariant_of-self
invariant_of-self c =
    let s = c.self.inside in
    let r = subst (IsWaiting c.args.place) (sym c.self.view_is) c.requires in
    gate_done s.parts c.args.place Unsent r.0 c.self.invariant r.1 refl (λ took. let q : false ≡ true = took in absurd (cc)) c.trim.new.parts (c.trim.ensures.trimmed ∙ ap trimmed c.change.ensures.changed) c.trim.ensures.front
