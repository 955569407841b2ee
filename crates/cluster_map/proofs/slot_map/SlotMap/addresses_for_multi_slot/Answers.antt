use Rattle.std.proofs.Common.{◌∙◌, ◌++◌, ◌∷◌, [], ap, sym, take}
use Rattle.std.proofs.lemmas.List.{take_more}
use Rattle.std.proofs.lemmas.Slice.Zip.{all_zipped_more}
use Rattle.cluster_map.proofs.slot_map.SlotMap.addresses_for_multi_slot.Goals as goal

pub loop-route-preserved : goal.loop-route-preserved
loop-route-preserved g c =
    let routes = c.args.routes.now in
    let i = c.loop-route.route-index in
    let more = take_more routes i c.loop-route-item.result c.loop-route-test.true ∙ ap (λ z. take i routes ++ z ∷ []) (sym c.loop-route-item.is) in
    rw (c.in_ok-push.ensures.items, more) (all_zipped_more _ _ _ _ _ c.loop-route.invariant c.slot_addr_for_route.ensures.node)
