use Rattle.std.proofs.Common.{inl, ◌≡◌, ◌<◌, ◌++◌, ◌==◌, true, false, List, ℕ, length, length-append, refl, sym, subst, ap, ◌∙◌, arith}
use Rattle.std.proofs.lemmas.Bool.Decides.{nat_tests}
use Rattle.std.specs.VecDeque.{deque_len}
use Rattle.session_core.specs.declared.ordered_part.Status.TheVariants.{Waits}
use Rattle.session_core.specs.Inner.Lane.{MayBecome, with_place, with_status}
use Rattle.session_core.proofs.Ascending.{appended_in, ascends_split, length-put, length-without}
use Rattle.session_core.proofs.LaneLists.{order_settled, order_refused, order_idle, put_waiting, order_is, lane_is}
use Rattle.session_core.proofs.lane_queues.LaneQueues.put_back.Goals as goal

pub invariant_of-self : goal.invariant_of-self
invariant_of-self c =
    let s = c.self.inside in
    let i = c.self.invariant in
    let p = c.args.place in
    let m = subst (MayBecome p Waits) (sym c.self.view_is) c.requires in
    let e : (deque_len c.take_place.new.places == 0) ≡ true = sym c.is_empty.ensures ∙ c.if-is_empty.true in
    let none : length c.take_place.new.places.items ≡ 0 = grind (arith, nat_tests) in
    let put = c.put_place.ensures.items ∙ ap (with_place p) c.move_before.ensures.moved in
    let rest = order_is refl refl c.take_place.ensures.items (order_settled p s.refused.items s.later.items s.asked.items i.0) in
    let many = ap length put ∙ length-put p (s.refused.items ++ s.later.items) in
    let were = length-append s.refused.items s.later.items in
    let gone = ap length c.move_before.ensures.empty in
    let less = ap length c.take_place.ensures.items in
    let one = length-without p s.asked.items i.0.asked_ascends m.0 in (
      order_is c.move_before.ensures.empty put refl (order_idle p s.refused.items s.later.items c.take_place.new.places.items rest none m.1),
      omega (arith, many, were, gone, less, one, i.1, c.move_before.ensures.capacity),
      omega (arith, many, were, gone, less, one, i.2, c.move_before.ensures.room, c.put_place.ensures.capacity),
      omega (arith, many, were, gone, less, one, i.3, c.take_place.ensures.capacity),
    )

pub put_place-requires-else-is_empty-clause-ascends : goal.put_place-requires-else-is_empty-clause-ascends
put_place-requires-else-is_empty-clause-ascends c = (ascends_split c.self.inside.refused.items c.self.inside.later.items c.self.invariant.0.waiting_ascends).0

pub put_place-requires-else-is_empty-clause-absent : goal.put_place-requires-else-is_empty-clause-absent
put_place-requires-else-is_empty-clause-absent c = λ h.
    (subst (MayBecome c.args.place Waits) (sym c.self.view_is) c.requires).1 (appended_in c.args.place c.self.inside.refused.items c.self.inside.later.items (inl h))

pub put_place-requires-else-is_empty-clause-room : goal.put_place-requires-else-is_empty-clause-room
put_place-requires-else-is_empty-clause-room c =
    let m = subst (MayBecome c.args.place Waits) (sym c.self.view_is) c.requires in
    let e : (deque_len c.take_place.new.places == 0) ≡ false = sym c.is_empty.ensures ∙ c.if-is_empty.false in
    let some : 0 < length c.take_place.new.places.items = grind (arith, nat_tests) in
    let less = ap length c.take_place.ensures.items in
    let one = length-without c.args.place c.self.inside.asked.items c.self.invariant.0.asked_ascends m.0 in
    omega (arith, some, less, one, c.self.invariant.1)

pub invariant_of-self-else-is_empty : goal.invariant_of-self-else-is_empty
invariant_of-self-else-is_empty c =
    let s = c.self.inside in
    let i = c.self.invariant in
    let p = c.args.place in
    let m = subst (MayBecome p Waits) (sym c.self.view_is) c.requires in
    let more = ap length c.put_place-else-is_empty.ensures.items ∙ length-put p s.refused.items in
    let less = ap length c.take_place.ensures.items in
    let one = length-without p s.asked.items i.0.asked_ascends m.0 in (
      order_is c.put_place-else-is_empty.ensures.items refl c.take_place.ensures.items (order_refused p s.refused.items s.later.items s.asked.items i.0 m.0 m.1),
      omega (arith, more, less, one, i.1, c.put_place-else-is_empty.ensures.capacity),
      omega (arith, more, less, one, i.2),
      omega (arith, more, less, one, i.3, c.take_place.ensures.capacity),
    )

pub returns-else-is_empty : goal.returns-else-is_empty
returns-else-is_empty c =
    let s = c.self.inside in
    let p = c.args.place in
    let m = subst (MayBecome p Waits) (sym c.self.view_is) c.requires in
    lane_is s.settled_end s.link (ap (λ (xs : List ℕ). xs ++ s.later.items) c.put_place-else-is_empty.ensures.items ∙ sym (put_waiting p s.refused.items s.later.items s.asked.items c.self.invariant.0 m.0)) c.take_place.ensures.items
    ∙ ap (with_status p Waits) c.self.view_is
