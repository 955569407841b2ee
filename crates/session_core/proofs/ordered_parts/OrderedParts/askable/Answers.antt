use Rattle.std.proofs.Common.{◌<◌, ◌-◌, ℕ, length, Some, subst, arith}
use Rattle.session_core.specs.Part.{have_slot}
use Rattle.session_core.specs.Order.{Order, MayAskAmong, IsOf, Offers, NamesWaiting}
use Rattle.session_core.proofs.Places.{at_within, at_read}
use Rattle.session_core.proofs.OrderAsks.{next_offers, offers_next, asks_next, waiting_part, names}
use Rattle.session_core.proofs.ordered_parts.OrderedParts.askable.Goals as goal

pub returns-in_default-clause-asks : goal.returns-in_default-clause-asks
returns-in_default-clause-asks c =
    let s = c.self.inside in
    subst (λ (o : Order). (place link : ℕ) → MayAskAmong have_slot place link o → IsOf c.args.slot place o → ⊥) c.self.view_is
    (λ place link m of. c.in_default.ensures.none place (asks_next (record { first = s.first; parts = s.parts.items }) s.open_parts s.bars.items c.args.slot place link c.self.invariant m of))

pub overflow_sub-next : goal.overflow_sub-next
overflow_sub-next c =
    let s = c.self.inside in
    let p = waiting_part (record { first = s.first; parts = s.parts.items }) s.open_parts s.bars.items c.args.slot c.in-Some.next.place c.self.invariant c.in-Some.ensures.next.waits in
    (at_within c.in-Some.next.place s.first s.parts.items p.0 p.1).0

pub index-requires : goal.index-requires
index-requires c =
    let s = c.self.inside in
    let p = waiting_part (record { first = s.first; parts = s.parts.items }) s.open_parts s.bars.items c.args.slot c.in-Some.next.place c.self.invariant c.in-Some.ensures.next.waits in
    let w = at_within c.in-Some.next.place s.first s.parts.items p.0 p.1 in
    omega (arith, w.0, w.1)

pub returns-clause-may : goal.returns-clause-may
returns-clause-may c =
    let s = c.self.inside in
    subst (λ (o : Order). (place link : ℕ) → Offers (Some (record { place = c.in-Some.next.place; seat = c.index.result.now.seat; link = c.in-Some.next.link })) place link → MayAskAmong have_slot place link o × IsOf c.args.slot place o) c.self.view_is
    (next_offers (record { first = s.first; parts = s.parts.items }) s.open_parts s.bars.items c.args.slot (record { place = c.in-Some.next.place; seat = c.index.result.now.seat; link = c.in-Some.next.link }) c.self.invariant c.in-Some.ensures.next c.in-Some.ensures.link)

pub returns-clause-asks : goal.returns-clause-asks
returns-clause-asks c =
    let s = c.self.inside in
    subst (λ (o : Order). (place link : ℕ) → MayAskAmong have_slot place link o → IsOf c.args.slot place o → Offers (Some (record { place = c.in-Some.next.place; seat = c.index.result.now.seat; link = c.in-Some.next.link })) place link) c.self.view_is
    (offers_next (record { first = s.first; parts = s.parts.items }) s.open_parts s.bars.items c.args.slot (record { place = c.in-Some.next.place; seat = c.index.result.now.seat; link = c.in-Some.next.link }) c.self.invariant c.in-Some.ensures.next c.in-Some.ensures.link)

pub returns-clause-seat : goal.returns-clause-seat
returns-clause-seat c =
    let s = c.self.inside in
    let p = waiting_part (record { first = s.first; parts = s.parts.items }) s.open_parts s.bars.items c.args.slot c.in-Some.next.place c.self.invariant c.in-Some.ensures.next.waits in
    let w = at_within c.in-Some.next.place s.first s.parts.items p.0 p.1 in
    let inside : c.in-Some.next.place - s.first < length s.parts.items = omega (arith, w.0, w.1) in
    subst (NamesWaiting c.in-Some.next.place c.index.result.now.seat) c.self.view_is
    (names (record { first = s.first; parts = s.parts.items }) c.in-Some.next.place p.0 c.index.result.now p.1 p.2 (at_read c.in-Some.next.place s.first s.parts.items c.index.result.now w.0 inside c.index.ensures))
