use borrow.Author.Tests.{ltb-true}
use Rattle.std.proofs.Common.{◌≡◌, ◌<◌, ◌-◌, length, Option, None, Some, sym, subst, arith}
use Rattle.session_core.specs.declared.ordered_part.OrderedPart.{OrderedPart}
use Rattle.session_core.specs.Order.{Order, ordered_at}
use Rattle.session_core.proofs.Places.{at_below, at_past, at_read}
use Rattle.session_core.proofs.ordered_parts.OrderedParts.part.Goals as goal

pub returns-then-place-self-clause-part : goal.returns-then-place-self-clause-part
returns-then-place-self-clause-part c =
    let s = c.self.inside in
    subst (λ (o : Order). ◌≡◌ {A = Option OrderedPart} None (ordered_at c.args.place o)) c.self.view_is (sym (at_below c.args.place s.first s.parts.items c.if-place-self.true))

pub returns-in-Some-clause-part : goal.returns-in-Some-clause-part
returns-in-Some-clause-part c =
    let s = c.self.inside in
    let inside : c.args.place - s.first < length s.parts.items = ltb-true _ _ (sym c.in-Some.ensures.item.0) in
    subst (λ (o : Order). Some c.in-Some.part.now ≡ ordered_at c.args.place o) c.self.view_is
    (sym (at_read c.args.place s.first s.parts.items c.in-Some.part.now c.if-place-self.false inside c.in-Some.ensures.lookup))

pub returns-in-None-clause-part : goal.returns-in-None-clause-part
returns-in-None-clause-part c =
    let s = c.self.inside in
    subst (λ (o : Order). ◌≡◌ {A = Option OrderedPart} None (ordered_at c.args.place o)) c.self.view_is
    (sym (at_past c.args.place s.first s.parts.items (omega (arith, c.in-None.ensures.item.3, c.if-place-self.false))))
