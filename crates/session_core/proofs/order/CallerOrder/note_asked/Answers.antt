use Rattle.std.proofs.Common.{sym, subst}
use Rattle.session_core.specs.Order.{Order, MayAsk}
use Rattle.session_core.specs.Inner.Tied.{IsGateKept}
use Rattle.session_core.proofs.OrderGate.{gate_asked}
use Rattle.session_core.proofs.order.CallerOrder.note_asked.Goals as goal

pub invariant_of-self : goal.invariant_of-self
invariant_of-self c =
    let s = c.self.inside in
    subst (λ (o : Order). IsGateKept o) (sym c.change.ensures.changed) (gate_asked s.parts c.args.place c.args.link c.change.ensures.sorted c.self.invariant (subst (MayAsk c.args.place c.args.link) (sym c.self.view_is) c.requires))
