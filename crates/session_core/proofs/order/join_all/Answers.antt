use Rattle.std.proofs.Common.{◌-◌, length, slice_index_or, sym, subst, ap, ◌∙◌}
use Rattle.std.proofs.lemmas.Option.{slice_get-get_or}
use Rattle.session_core.specs.declared.part.PartOrder.TheVariants.{OfSlot}
use Rattle.session_core.specs.Order.{Order}
use Rattle.session_core.specs.Inner.Tied.{MayFollow, AreLastOpen, pushed, first_parts}
use Rattle.session_core.proofs.OrderJoins.{may_follow, joined_next, joined_open, joined_undone}
use Rattle.session_core.proofs.order.join_all.Goals as goal

pub push-requires : goal.push-requires
push-requires c =
    subst (MayFollow c.args.call (slice_index_or c.args.orders.now c.loop-part.part (OfSlot 0))) (sym c.loop-part.invariant)
    (may_follow c.args.call c.args.orders.now c.args.parts.now c.loop-part.part (slice_index_or c.args.orders.now c.loop-part.part (OfSlot 0)) c.requires (slice_get-get_or c.args.orders.now c.loop-part.part (OfSlot 0) c.loop-part-test.true))

pub take_back-requires : goal.take_back-requires
take_back-requires c =
    subst (AreLastOpen c.loop-part.part) (sym (c.in-Err.ensures.err ∙ c.loop-part.invariant)) (joined_open c.args.call c.args.orders.now c.args.parts.now c.loop-part.part c.loop-part.auto.part-end)

pub returns-in-Err-clause-err : goal.returns-in-Err-clause-err
returns-in-Err-clause-err c =
    c.take_back.ensures ∙ ap (λ (o : Order). first_parts (length o.parts - c.loop-part.part) o) (c.in-Err.ensures.err ∙ c.loop-part.invariant)
    ∙ joined_undone c.args.call c.args.orders.now c.args.parts.now c.loop-part.part c.loop-part.auto.part-end

pub loop-part-preserved : goal.loop-part-preserved
loop-part-preserved c =
    c.in_default.ensures.pushed ∙ ap (pushed (record { call = c.args.call; part = c.loop-part.part }) (slice_index_or c.args.orders.now c.loop-part.part (OfSlot 0))) c.loop-part.invariant
    ∙ joined_next c.args.call c.args.orders.now c.args.parts.now c.loop-part.part (slice_index_or c.args.orders.now c.loop-part.part (OfSlot 0)) (slice_get-get_or c.args.orders.now c.loop-part.part (OfSlot 0) c.loop-part-test.true)
