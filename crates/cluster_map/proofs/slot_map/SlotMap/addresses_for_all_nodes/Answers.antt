use Rattle.std.proofs.Common.{◌∙◌, ◌++◌, ◌∷◌, [], ap, sym, append_assoc}
use Rattle.std.specs.List.{flat_map}
use Rattle.std.proofs.lemmas.List.{append-nil}
use Rattle.std.proofs.lemmas.List.Concat.{flat_map-append}
use Rattle.cluster_map.specs.EachOnce.{each_once}
use Rattle.cluster_map.specs.SlotNodes.{nodes_in}
use Rattle.cluster_map.proofs.slot_map.SlotMap.addresses_for_all_nodes.Goals as goal

pub loop-addrs-preserved : goal.loop-addrs-preserved
loop-addrs-preserved c =
    let done = c.loop-addrs.invariant.2.0 in
    let nodes = c.in-Some.addrs.now in
    let more = flat_map-append nodes_in done (nodes ∷ []) ∙ ap (λ z. flat_map nodes_in done ++ z) (append-nil (nodes_in nodes)) in (
      tt,
      tt,
      (
        done ++ nodes ∷ [],
        append_assoc done (nodes ∷ []) c.next.new.self ∙ ap (λ z. done ++ z) (sym c.in-Some.ensures.steps) ∙ c.loop-addrs.invariant.2.1,
        c.in_ok-insert_all.ensures (flat_map nodes_in done) c.loop-addrs.invariant.2.2 ∙ ap each_once (sym more),
      ),
    )
