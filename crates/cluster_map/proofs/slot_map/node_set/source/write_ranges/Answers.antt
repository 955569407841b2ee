use Rattle.std.proofs.Common.{◌∙◌, ap, sym}
use Rattle.std.specs.List.{flat_map}
use Rattle.cluster_map.specs.SlotNodes.{nodes_in}
use Rattle.cluster_map.specs.Inner.NodeSets.{after_addresses}
use Rattle.cluster_map.proofs.NodeSets.{after_both}
use Rattle.cluster_map.proofs.slot_map.node_set.source.write_ranges.Goals as goal

pub loop-addrs-preserved : goal.loop-addrs-preserved
loop-addrs-preserved c =
    let old = c.loop-addrs.state in
    let nodes = nodes_in c.in-Some.addrs.now in
    let rest = flat_map nodes_in c.next.new.self in (
      tt,
      tt,
      ap (λ s. after_addresses s rest) c.write_range.ensures
          ∙ after_both old nodes rest
          ∙ ap (λ l. after_addresses old (flat_map nodes_in l)) (sym c.in-Some.ensures.steps)
          ∙ c.loop-addrs.invariant.2,
    )

pub returns : goal.returns
returns c = ap (λ l. after_addresses c.loop-addrs.state (flat_map nodes_in l)) (sym c.in-None.ensures.steps.0) ∙ c.loop-addrs.invariant.2
