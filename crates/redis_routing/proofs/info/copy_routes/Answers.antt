use Rattle.std.proofs.Common.{◌≡◌, ◌∙◌, ap, refl, arith}
use Rattle.std.proofs.lemmas.List.Elements.{same_from_all_zip}
use Rattle.redis_routing.specs.RoutingInfo.{route_lists}
use Rattle.redis_routing.proofs.Routes.{one_more}
use Rattle.redis_routing.proofs.info.copy_routes.Goals as goal

pub loop-route-preserved : goal.loop-route-preserved
loop-route-preserved c =
    let same : c.in_ok-clone.field-0.items ≡ c.loop-route-item.result.1.items = same_from_all_zip _ _ _ c.in_ok-clone.ensures.cases.0 (λ a b e. e) in
    ap route_lists c.in_ok-push.ensures.items
    ∙ one_more c.deref-route-items.result.now c.loop-route.copies.items c.loop-route.route-index c.loop-route-item.result (c.loop-route-item.result.0, c.in_ok-clone.field-0) c.loop-route.invariant (omega arith) c.loop-route-item.is refl same
