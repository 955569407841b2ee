use Rattle.std.proofs.Common.{◌<◌, ◌-◌, ℕ, length, subst, arith}
use Rattle.session_core.specs.Order.{Order, IsOf, NamesWaiting, IsOvertaken}
use Rattle.session_core.proofs.Places.{at_within, at_read}
use Rattle.session_core.proofs.OrderAsks.{over_is, over_told, waiting_part, names}
use Rattle.session_core.proofs.ordered_parts.OrderedParts.overtaken.Goals as goal

pub overflow_sub-place : goal.overflow_sub-place
overflow_sub-place c =
    let s = c.self.inside in
    let p = waiting_part (record { first = s.first; parts = s.parts.items }) s.open_parts s.bars.items c.args.slot c.in-Some.place c.self.invariant c.in-Some.ensures.overtaken.0 in
    (at_within c.in-Some.place s.first s.parts.items p.0 p.1).0

pub index-requires : goal.index-requires
index-requires c =
    let s = c.self.inside in
    let p = waiting_part (record { first = s.first; parts = s.parts.items }) s.open_parts s.bars.items c.args.slot c.in-Some.place c.self.invariant c.in-Some.ensures.overtaken.0 in
    let w = at_within c.in-Some.place s.first s.parts.items p.0 p.1 in
    omega (arith, w.0, w.1)

pub returns-in_default-clause-none : goal.returns-in_default-clause-none
returns-in_default-clause-none c =
    let s = c.self.inside in
    subst (λ (o : Order). (place : ℕ) → IsOvertaken place o → IsOf c.args.slot place o → ⊥) c.self.view_is
    (λ place over of.
    let told = over_told (record { first = s.first; parts = s.parts.items }) s.open_parts s.bars.items c.args.slot place c.self.invariant over of in
    let le = c.in_default.ensures.none place told.0 in
    omega (arith, told.1, le))

pub returns-clause-overtaken : goal.returns-clause-overtaken
returns-clause-overtaken c =
    let s = c.self.inside in
    subst (λ (o : Order). IsOvertaken c.in-Some.place o × IsOf c.args.slot c.in-Some.place o) c.self.view_is
    (over_is (record { first = s.first; parts = s.parts.items }) s.open_parts s.bars.items c.args.slot c.in-Some.place c.self.invariant c.in-Some.ensures.overtaken.0 c.in-Some.ensures.overtaken.1)

pub returns-clause-seat : goal.returns-clause-seat
returns-clause-seat c =
    let s = c.self.inside in
    let p = waiting_part (record { first = s.first; parts = s.parts.items }) s.open_parts s.bars.items c.args.slot c.in-Some.place c.self.invariant c.in-Some.ensures.overtaken.0 in
    let w = at_within c.in-Some.place s.first s.parts.items p.0 p.1 in
    let inside : c.in-Some.place - s.first < length s.parts.items = omega (arith, w.0, w.1) in
    subst (NamesWaiting c.in-Some.place c.index.result.now.seat) c.self.view_is
    (names (record { first = s.first; parts = s.parts.items }) c.in-Some.place p.0 c.index.result.now p.1 p.2 (at_read c.in-Some.place s.first s.parts.items c.index.result.now w.0 inside c.index.ensures))
