use Rattle.std.proofs.Common.{◌<◌, ◌-◌, ℕ, length, subst, arith}
use Rattle.session_core.specs.Order.{Order}
use Rattle.session_core.specs.Inner.Tied.{IsBar, IsFirstBar}
use Rattle.session_core.proofs.Places.{at_within, at_read}
use Rattle.session_core.proofs.Ascending.{in_some, read_in, least}
use Rattle.session_core.proofs.OrderAsks.{first_bar_is}
use Rattle.session_core.proofs.ordered_parts.OrderedParts.first_bar.Goals as goal

pub returns-in_default-clause-none : goal.returns-in_default-clause-none
returns-in_default-clause-none c =
    let s = c.self.inside in
    subst (λ (o : Order). (place : ℕ) → IsBar place o → ⊥) c.self.view_is
    (λ place bar. let some = in_some place s.bars.items (c.self.invariant.bar_there place bar) in omega (arith, some, c.in_default.ensures.item.3))

pub overflow_sub-place : goal.overflow_sub-place
overflow_sub-place c =
    let s = c.self.inside in
    let bar = c.self.invariant.bar_in c.in-Some.place.now (read_in s.bars.items 0 c.in-Some.place.now c.in-Some.ensures.item.3.0 c.in-Some.ensures.lookup) in
    (at_within c.in-Some.place.now s.first s.parts.items bar.0 bar.1).0

pub index-requires : goal.index-requires
index-requires c =
    let s = c.self.inside in
    let bar = c.self.invariant.bar_in c.in-Some.place.now (read_in s.bars.items 0 c.in-Some.place.now c.in-Some.ensures.item.3.0 c.in-Some.ensures.lookup) in
    let w = at_within c.in-Some.place.now s.first s.parts.items bar.0 bar.1 in
    omega (arith, w.0, w.1)

pub returns-clause-bar : goal.returns-clause-bar
returns-clause-bar c =
    let s = c.self.inside in
    let t = c.self.invariant in
    let there = read_in s.bars.items 0 c.in-Some.place.now c.in-Some.ensures.item.3.0 c.in-Some.ensures.lookup in
    let bar = t.bar_in c.in-Some.place.now there in
    let w = at_within c.in-Some.place.now s.first s.parts.items bar.0 bar.1 in
    let inside : c.in-Some.place.now - s.first < length s.parts.items = omega (arith, w.0, w.1) in
    subst (IsFirstBar c.index.result.now) c.self.view_is
    (first_bar_is (record { first = s.first; parts = s.parts.items }) s.open_parts s.bars.items c.in-Some.place.now c.index.result.now t there (λ q h. least s.bars.items c.in-Some.place.now q t.ascends c.in-Some.ensures.lookup h)
    (at_read c.in-Some.place.now s.first s.parts.items c.index.result.now w.0 inside c.index.ensures))
