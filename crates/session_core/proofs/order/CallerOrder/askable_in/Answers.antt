use Rattle.std.proofs.Common.{◌≡◌, ◌<◌, ℕ, Some, sym, subst}
use Rattle.session_core.specs.declared.ordered_part.OrderedPart.{OrderedPart}
use Rattle.session_core.specs.Order.{Order, ordered_at, MayAsk, IsOf, Offers}
use Rattle.session_core.specs.Inner.Tied.{IsBar}
use Rattle.session_core.proofs.OrderGate.{slot_needs, barred_none, free_may}
use Rattle.session_core.proofs.order.CallerOrder.askable_in.Goals as goal

pub returns-in_default-clause-asks : goal.returns-in_default-clause-asks
returns-in_default-clause-asks c =
    subst (λ (o : Order). (place link : ℕ) → MayAsk place link o → IsOf c.args.slot place o → ⊥) c.self.view_is
    (λ place link m of. c.in_default.ensures.asks place link (slot_needs c.self.inside.parts place link m) of)

pub returns-then-is_barred-clause-asks : goal.returns-then-is_barred-clause-asks
returns-then-is_barred-clause-asks c =
    let bar = subst (λ (o : Order). (place : ℕ) × (p : OrderedPart) × (ordered_at place o ≡ Some p) × (p.seat.call < c.in-Some.askable.seat.call) × IsBar place o) (sym c.self.view_is) (c.is_barred.ensures.barred c.if-is_barred.true) in
    subst (λ (o : Order). (place link : ℕ) → MayAsk place link o → IsOf c.args.slot place o → ⊥) c.self.view_is
    (barred_none c.self.inside.parts c.args.slot c.in-Some.askable c.in-Some.ensures.sorted c.in-Some.ensures.asks c.in-Some.ensures.seat bar)

pub returns-clause-may : goal.returns-clause-may
returns-clause-may c =
    let s = c.self.inside in
    let free = subst (λ (o : Order). (place : ℕ) (p : OrderedPart) → ordered_at place o ≡ Some p → p.seat.call < c.in-Some.askable.seat.call → IsBar place o → ⊥) (sym c.self.view_is) (c.is_barred.ensures.free c.if-is_barred.false) in
    subst (λ (o : Order). (place link : ℕ) → Offers (Some c.in-Some.askable) place link → MayAsk place link o × IsOf c.args.slot place o) c.self.view_is
    (free_may s.parts c.args.slot c.in-Some.askable c.in-Some.ensures.sorted c.self.invariant c.in-Some.ensures.may c.in-Some.ensures.seat free)

pub returns-clause-asks : goal.returns-clause-asks
returns-clause-asks c =
    subst (λ (o : Order). (place link : ℕ) → MayAsk place link o → IsOf c.args.slot place o → Offers (Some c.in-Some.askable) place link) c.self.view_is
    (λ place link m of. c.in-Some.ensures.asks place link (slot_needs c.self.inside.parts place link m) of)
