use Rattle.std.proofs.Common.{[], ◌∷◌, sym, subst, ap, ◌∙◌, arith}
use Rattle.session_core.specs.declared.part.PartOrder.TheVariants.{OfSlot, Whole}
use Rattle.session_core.specs.Order.{MayJoin, no_order, joined}
use Rattle.session_core.proofs.OrderJoins.{may_join_first, may_join_next}
use Rattle.rows.proofs.order.barred.Goals as goal

pub join-requires : goal.join-requires
join-requires c = subst (MayJoin 7 (OfSlot c.args.slot ∷ [])) (sym c.new-parts.ensures) (may_join_first 7 (OfSlot c.args.slot) (λ e. cc))

pub join-requires-2 : goal.join-requires-2
join-requires-2 c =
    subst (MayJoin 8 (Whole ∷ [])) (sym (c.in_ok-join.ensures.joined ∙ ap (joined 7 (OfSlot c.args.slot ∷ [])) c.new-parts.ensures))
    (may_join_next 7 8 (OfSlot c.args.slot ∷ []) Whole no_order (may_join_first 7 (OfSlot c.args.slot) (λ e. cc)) (omega arith) (λ e. cc))
