use Rattle.std.proofs.Common.{◌≡◌, ◌<◌, ℕ, Some, subst}
use Rattle.session_core.specs.declared.ordered_part.OrderedPart.{OrderedPart}
use Rattle.session_core.specs.Order.{Order, ordered_at}
use Rattle.session_core.specs.Inner.Tied.{IsBar}
use Rattle.session_core.proofs.OrderGate.{barred_by, unbarred_by}
use Rattle.session_core.proofs.order.CallerOrder.is_barred.Goals as goal

abbrev Free : ℕ → Order → Type 0
Free call o = (place : ℕ) (p : OrderedPart) → ordered_at place o ≡ Some p → p.seat.call < call → IsBar place o → ⊥

pub returns-in-Some-clause-barred : goal.returns-in-Some-clause-barred
returns-in-Some-clause-barred c = λ lt.
    let s = c.self.inside in
    subst (λ (o : Order). (place : ℕ) × (p : OrderedPart) × (ordered_at place o ≡ Some p) × (p.seat.call < c.args.call) × IsBar place o) c.self.view_is
    (barred_by s.parts c.args.call c.in-Some.bar c.in-Some.ensures.bar lt)

pub returns-in-Some-clause-free : goal.returns-in-Some-clause-free
returns-in-Some-clause-free c = λ not.
    let s = c.self.inside in
    subst (Free c.args.call) c.self.view_is (unbarred_by s.parts c.args.call c.in-Some.bar c.in-Some.ensures.sorted c.in-Some.ensures.bar not)

pub returns-in-None-clause-free : goal.returns-in-None-clause-free
returns-in-None-clause-free c = λ not.
    subst (Free c.args.call) c.self.view_is (λ place p e lt bar. c.in-None.ensures.none place bar)
