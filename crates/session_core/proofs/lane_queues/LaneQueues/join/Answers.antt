use Rattle.std.proofs.Common.{◌≡◌, ◌++◌, List, [], ◌∷◌, ℕ, length, length-append, sym, subst, ap, ◌∙◌, arith}
use Rattle.session_core.specs.Inner.Lane.{MayJoin}
use Rattle.session_core.proofs.LaneLists.{order_joined, order_is}
use Rattle.session_core.proofs.lane_queues.LaneQueues.join.Goals as goal

pub invariant_of-self-2 : goal.invariant_of-self-2
invariant_of-self-2 c =
    let s = c.self.inside in
    let i = c.self.invariant in
    let last = subst (MayJoin c.args.place) (sym c.self.view_is) c.requires in
    let is : c.push_back_reserved.new.self.items ≡ s.later.items ++ c.args.place ∷ [] = c.push_back_reserved.ensures.items ∙ ap (λ (xs : List ℕ). xs ++ c.args.place ∷ []) c.reserve-2.ensures.items in
    let many = ap length is ∙ length-append s.later.items (c.args.place ∷ []) in
    let refused = ap length c.reserve.ensures.items in
    let asked = ap length c.reserve-3.ensures.items in (
      order_is c.reserve.ensures.items is c.reserve-3.ensures.items (order_joined c.args.place s.refused.items s.later.items s.asked.items i.0 last),
      omega (arith, many, refused, asked, c.in_ok-reserve.ensures.ok, c.len-later.ensures, c.len-asked.ensures),
      omega (arith, many, refused, asked, c.in_ok-reserve-2.ensures.ok, c.push_back_reserved.ensures.capacity, c.len-refused.ensures, c.len-asked.ensures),
      omega (arith, many, refused, asked, c.in_ok-reserve-3.ensures.ok, c.len-refused.ensures, c.len-later.ensures),
    )
