use Rattle.std.proofs.Common.{sym, subst, ℕ}
use Rattle.session_core.specs.Order.{MayAsk}
use Rattle.session_core.proofs.OrderGate.{none_earlier, whole_may}
use Rattle.session_core.proofs.order.CallerOrder.askable_whole.Goals as goal

pub returns-clause-may : goal.returns-clause-may
returns-clause-may c = λ at link offers.
    let none = none_earlier c.args.self.now c.args.part.seat.call c.is_held.ensures.sorted (c.is_held.ensures.free c.if-is_held.false) in
    (sym offers.0, subst (λ (n : ℕ). MayAsk n link c.args.self.now) offers.0 (whole_may c.args.self.now c.args.place link c.args.part c.is_held.ensures.alone c.requires.there c.requires.whole c.in-Waits.is none))
