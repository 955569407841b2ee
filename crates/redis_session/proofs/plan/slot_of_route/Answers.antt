use Rattle.std.proofs.Common.{◌∙◌, Some, ap, sym}
use Rattle.redis_session.proofs.PartLists.{slot_at_route}
use Rattle.redis_session.proofs.plan.slot_of_route.Goals as goal

pub returns : goal.returns
returns c =
    ap (λ slot. Some slot) (c.slot.ensures ∙ ap (λ r. r.0.slot) (sym c.index-routes-number.is))
    ∙ slot_at_route c.routes.result.now c.args.split.now.routes c.args.number c.index-routes-number.result c.routes.ensures.routes c.requires c.index-routes-number.is
