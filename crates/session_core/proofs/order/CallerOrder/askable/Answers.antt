use Rattle.std.proofs.Common.{◌≡◌, Some, sym, subst}
use Rattle.session_core.specs.Order.{Order, ordered_at}
use Rattle.session_core.proofs.OrderGate.{only_offers}
use Rattle.session_core.proofs.order.CallerOrder.askable.Goals as goal

pub returns-in-OfSlot-clause-asks : goal.returns-in-OfSlot-clause-asks
returns-in-OfSlot-clause-asks c = λ link m.
    let there = subst (λ (o : Order). ordered_at c.args.place o ≡ Some c.in-Some.part) c.self.view_is (sym c.in-Some.ensures.part) in
    only_offers c.askable_in.result c.only_at.result c.args.place link c.only_at.ensures.same c.only_at.ensures.none (c.askable_in.ensures.asks c.args.place link m (c.in-Some.part, there, c.in-OfSlot.is))
