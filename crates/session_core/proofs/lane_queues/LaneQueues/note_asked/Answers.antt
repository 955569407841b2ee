use Rattle.std.proofs.Common.{◌++◌, [], ◌∷◌, length, length-append, refl, sym, subst, ap, ◌∙◌, arith}
use Rattle.session_core.specs.declared.ordered_part.Status.TheVariants.{Asked}
use Rattle.session_core.specs.Inner.Lane.{MayBecome, with_status}
use Rattle.session_core.proofs.Ascending.{without_first, length-without}
use Rattle.session_core.proofs.LaneLists.{order_asked, order_is, lane_is}
use Rattle.session_core.proofs.lane_queues.LaneQueues.note_asked.Goals as goal

pub invariant_of-self : goal.invariant_of-self
invariant_of-self c =
    let s = c.self.inside in
    let i = c.self.invariant in
    let p = c.args.place in
    let m = subst (MayBecome p (Asked c.args.link)) (sym c.self.view_is) c.requires in
    let left = c.take_first.new.places.items in
    let rest = c.take_first.new.others.items in
    let waits = s.refused.items ++ s.later.items in
    let is = c.take_first.ensures.taken ∙ sym (without_first p waits i.0.waiting_ascends m.0) in
    let fewer = ap length is in
    let one = length-without p waits i.0.waiting_ascends m.0.0 in
    let both = length-append left rest in
    let were = length-append s.refused.items s.later.items in
    let more = ap length c.push_back_reserved.ensures.items ∙ length-append s.asked.items (p ∷ []) in (
      order_is refl refl c.push_back_reserved.ensures.items (order_asked p s.refused.items s.later.items s.asked.items left rest i.0 m.0 m.1 is),
      omega (arith, fewer, one, both, were, more, i.1, c.take_first.ensures.capacity),
      omega (arith, fewer, one, both, were, more, i.2, c.take_first.ensures.room),
      omega (arith, fewer, one, both, were, more, i.3, c.push_back_reserved.ensures.capacity),
    )

pub returns : goal.returns
returns c =
    let s = c.self.inside in
    let p = c.args.place in
    let m = subst (MayBecome p (Asked c.args.link)) (sym c.self.view_is) c.requires in
    lane_is s.settled_end c.args.link (c.take_first.ensures.taken ∙ sym (without_first p (s.refused.items ++ s.later.items) c.self.invariant.0.waiting_ascends m.0)) c.push_back_reserved.ensures.items
    ∙ ap (with_status p (Asked c.args.link)) c.self.view_is
