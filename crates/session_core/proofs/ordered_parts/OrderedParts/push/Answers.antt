use Rattle.std.proofs.Common.{◌≡◌, ◌+◌, ◌++◌, ◌∷◌, [], ℕ, List, length, sym, subst, ap, ◌∙◌, arith}
use Rattle.session_core.specs.declared.part.PartOrder.{PartOrder}
use Rattle.session_core.specs.declared.part.PartOrder.TheVariants.{OfSlot}
use Rattle.session_core.specs.declared.ordered_part.OrderedPart.{OrderedPart}
use Rattle.session_core.specs.declared.ordered_part.Status.TheVariants.{Waits}
use Rattle.session_core.specs.Order.{Order}
use Rattle.session_core.specs.Inner.Lane.{joined, MayJoin}
use Rattle.session_core.specs.Inner.Tied.{IsTied, lane_of, MayFollow, Stepped, entered, pushed}
use Rattle.session_core.proofs.OrderTies.{tied_pushed, tied_same, joins_last}
use Rattle.session_core.proofs.ordered_parts.OrderedParts.push.Goals as goal

same_bars : (order : PartOrder) (place : ℕ) (bars : List ℕ) → ((slot : ℕ) × (order ≡ OfSlot slot)) → entered order place bars ≡ bars
same_bars order place bars of = ap (λ o. entered o place bars) of.1

pub join-requires : goal.join-requires
join-requires c = λ slot is.
    let s = c.self.inside in
    let end : c.end-place.result ≡ s.first + length s.parts.items = c.end-place.ensures.end ∙ sym (ap (λ (o : Order). o.first + length o.parts) c.self.view_is) in
    subst (λ (n : ℕ). MayJoin n (lane_of slot s.open_parts)) (sym end) (joins_last (record { first = s.first; parts = s.parts.items }) s.open_parts s.bars.items slot c.self.invariant)

pub invariant_of-self-in_err-join : goal.invariant_of-self-in_err-join
invariant_of-self-in_err-join c =
    let s = c.self.inside in
    subst (λ (ps : List OrderedPart). IsTied (record { first = s.first; parts = ps }) c.join.new.self c.enter_bars.new.bars.items) (sym c.reserve.ensures.items)
    (subst (λ (ns : List ℕ). IsTied (record { first = s.first; parts = s.parts.items }) c.join.new.self ns) (sym (c.in_ok-enter_bars.ensures.entered ∙ same_bars c.args.order c.end-place.result s.bars.items c.in_err-join.ensures.slot))
    (tied_same (record { first = s.first; parts = s.parts.items }) s.open_parts c.join.new.self s.bars.items c.self.invariant c.in_err-join.ensures.err))

pub invariant_of-self-2 : goal.invariant_of-self-2
invariant_of-self-2 c =
    let s = c.self.inside in
    let t = c.self.invariant in
    let may : MayFollow c.args.seat.call c.args.order (record { first = s.first; parts = s.parts.items }) = subst (MayFollow c.args.seat.call c.args.order) (sym c.self.view_is) c.requires in
    let end : c.end-place.result ≡ s.first + length s.parts.items = c.end-place.ensures.end ∙ sym (ap (λ (o : Order). o.first + length o.parts) c.self.view_is) in
    let step = subst (λ (n : ℕ). Stepped c.args.order (joined n) s.open_parts c.join.new.self) end c.in_ok-join.ensures.joined in
    let tied = tied_pushed (record { first = s.first; parts = s.parts.items }) s.open_parts c.join.new.self s.bars.items c.args.seat c.args.order t may (omega (arith, c.if-place.false, end, t.sorted.fits)) step in
    subst (λ (ps : List OrderedPart). IsTied (record { first = s.first; parts = ps }) c.join.new.self c.enter_bars.new.bars.items) (sym (c.push_back_reserved.ensures.items ∙ ap (λ (ps : List OrderedPart). ps ++ record { seat = c.args.seat; order = c.args.order; status = Waits } ∷ []) c.reserve.ensures.items))
    (subst (λ (ns : List ℕ). IsTied (pushed c.args.seat c.args.order (record { first = s.first; parts = s.parts.items })) c.join.new.self ns) (sym (c.in_ok-enter_bars.ensures.entered ∙ ap (λ n. entered c.args.order n s.bars.items) end)) tied)
