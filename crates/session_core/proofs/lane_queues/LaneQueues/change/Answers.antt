use Rattle.std.proofs.Common.{◌++◌, List, ℕ, length, refl, sym, ap, ◌∙◌, arith}
use Rattle.session_core.specs.declared.ordered_part.Status.{Status}
use Rattle.session_core.specs.declared.ordered_part.Status.TheVariants.{Unsent}
use Rattle.session_core.specs.Inner.Lane.{without, with_status}
use Rattle.session_core.proofs.Ascending.{ascends_split, without_appended, length-without_le}
use Rattle.session_core.proofs.LaneLists.{order_settled, order_unsent, order_is, lane_is}
use Rattle.session_core.proofs.lane_queues.LaneQueues.change.Goals as goal

pub invariant_of-self : goal.invariant_of-self
invariant_of-self c =
    let s = c.self.inside in
    let i = c.self.invariant in
    let less = ap length c.take_place.ensures.items in
    let fewer = length-without_le c.args.place s.asked.items in (
      order_is refl refl c.take_place.ensures.items (order_settled c.args.place s.refused.items s.later.items s.asked.items i.0),
      omega (arith, less, fewer, i.1),
      omega (arith, less, fewer, i.2),
      omega (arith, less, fewer, i.3, c.take_place.ensures.capacity),
    )

pub take_place-requires-in-Unsent : goal.take_place-requires-in-Unsent
take_place-requires-in-Unsent c = let s = c.self-in-Unsent.inside in (ascends_split s.refused.items s.later.items c.self-in-Unsent.invariant.0.waiting_ascends).0

pub take_place-requires-in-Unsent-2 : goal.take_place-requires-in-Unsent-2
take_place-requires-in-Unsent-2 c = let s = c.self-in-Unsent.inside in (ascends_split s.refused.items s.later.items c.self-in-Unsent.invariant.0.waiting_ascends).1

pub invariant_of-self-in-Unsent : goal.invariant_of-self-in-Unsent
invariant_of-self-in-Unsent c =
    let s = c.self-in-Unsent.inside in
    let i = c.self-in-Unsent.invariant in
    let p = c.args.place in
    let refused = ap length c.take_place-in-Unsent.ensures.items in
    let fewer = length-without_le p s.refused.items in
    let later = ap length c.take_place-in-Unsent-2.ensures.items in
    let less = length-without_le p s.later.items in (
      order_is c.take_place-in-Unsent.ensures.items c.take_place-in-Unsent-2.ensures.items refl (order_unsent p s.refused.items s.later.items s.asked.items i.0),
      omega (arith, refused, fewer, later, less, i.1, c.take_place-in-Unsent.ensures.capacity),
      omega (arith, refused, fewer, later, less, i.2, c.take_place-in-Unsent-2.ensures.capacity),
      omega (arith, refused, fewer, later, less, i.3),
    )

pub returns-in-Unsent : goal.returns-in-Unsent
returns-in-Unsent c =
    let s = c.self-in-Unsent.inside in
    let p = c.args.place in
    let left = ap (λ (xs : List ℕ). xs ++ c.take_place-in-Unsent-2.new.places.items) c.take_place-in-Unsent.ensures.items
    ∙ ap (λ (xs : List ℕ). without p s.refused.items ++ xs) c.take_place-in-Unsent-2.ensures.items
    ∙ sym (without_appended p s.refused.items s.later.items) in
    lane_is s.settled_end s.link left refl ∙ ap (with_status p Unsent) c.self-in-Unsent.view_is ∙ ap (λ (status : Status). with_status p status c.args.self.now) (sym c.in-Unsent.is)
