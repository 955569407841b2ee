use Rattle.std.proofs.Common.{◌≡◌, ◌<◌, ◌≤◌, ◌-◌, ℕ, List, length, sym, subst, arith}
use Rattle.session_core.specs.declared.ordered_part.OrderedPart.{OrderedPart}
use Rattle.session_core.specs.declared.ordered_part.Status.{Status}
use Rattle.session_core.specs.Order.{Order, with_status}
use Rattle.session_core.specs.Inner.Tied.{IsTied, MayChange}
use Rattle.session_core.proofs.Places.{at_within, at_read}
use Rattle.session_core.proofs.OrderTies.{tied_changed, changes_there, becomes}
use Rattle.session_core.proofs.ordered_parts.OrderedParts.change.Goals as goal

-- the part is there
inside : (place : ℕ) (status : Status) (order own : Order) → order ≡ own → MayChange place status own → (order.first ≤ place) × (place - order.first < length order.parts)
inside place status order own view may =
    let there = changes_there place status order (subst (MayChange place status) (sym view) may) in
    let w = at_within place order.first order.parts there.0 there.1 in
    (w.0, omega (arith, w.0, w.1))

pub overflow_sub-index : goal.overflow_sub-index
overflow_sub-index c = let s = c.self.inside in (inside c.args.place c.args.status (record { first = s.first; parts = s.parts.items }) c.args.self.now c.self.view_is c.requires).0

pub index-requires : goal.index-requires
index-requires c = let s = c.self.inside in let w = inside c.args.place c.args.status (record { first = s.first; parts = s.parts.items }) c.args.self.now c.self.view_is c.requires in omega (arith, w.1)

pub change-requires : goal.change-requires
change-requires c = λ slot is.
    let s = c.self.inside in
    let w = inside c.args.place c.args.status (record { first = s.first; parts = s.parts.items }) c.args.self.now c.self.view_is c.requires in
    let may : MayChange c.args.place c.args.status (record { first = s.first; parts = s.parts.items }) = subst (MayChange c.args.place c.args.status) (sym c.self.view_is) c.requires in
    becomes (record { first = s.first; parts = s.parts.items }) s.open_parts s.bars.items c.args.place slot c.args.status c.index.result.now c.self.invariant (at_read c.args.place s.first s.parts.items c.index.result.now w.0 w.1 c.index.ensures) is may

pub mark-requires : goal.mark-requires
mark-requires c = let s = c.self.inside in let w = inside c.args.place c.args.status (record { first = s.first; parts = s.parts.items }) c.args.self.now c.self.view_is c.requires in omega (arith, w.1)

pub invariant_of-self : goal.invariant_of-self
invariant_of-self c =
    let s = c.self.inside in
    let w = inside c.args.place c.args.status (record { first = s.first; parts = s.parts.items }) c.args.self.now c.self.view_is c.requires in
    let may : MayChange c.args.place c.args.status (record { first = s.first; parts = s.parts.items }) = subst (MayChange c.args.place c.args.status) (sym c.self.view_is) c.requires in
    subst (λ (ps : List OrderedPart). IsTied (record { first = s.first; parts = ps }) c.change.new.self c.leave_bars.new.bars.items) (sym c.mark.ensures)
    (subst (λ (ns : List ℕ). IsTied (with_status c.args.place c.args.status (record { first = s.first; parts = s.parts.items })) c.change.new.self ns) (sym c.leave_bars.ensures)
    (tied_changed (record { first = s.first; parts = s.parts.items }) s.open_parts c.change.new.self s.bars.items c.args.place c.args.status c.index.result.now c.self.invariant (at_read c.args.place s.first s.parts.items c.index.result.now w.0 w.1 c.index.ensures) may c.change.ensures))
