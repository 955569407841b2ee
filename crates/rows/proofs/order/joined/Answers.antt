use Rattle.std.proofs.Common.{[], ◌∷◌, sym, subst}
use Rattle.session_core.specs.declared.part.PartOrder.TheVariants.{OfSlot}
use Rattle.session_core.specs.Order.{MayJoin}
use Rattle.session_core.proofs.OrderJoins.{may_join_first}
use Rattle.rows.proofs.order.joined.Goals as goal

pub join-requires : goal.join-requires
join-requires c = subst (MayJoin 7 (OfSlot c.args.slot ∷ [])) (sym c.new-parts.ensures) (may_join_first 7 (OfSlot c.args.slot) (λ e. cc))
