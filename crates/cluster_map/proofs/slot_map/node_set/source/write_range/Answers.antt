use Rattle.std.proofs.Common.{◌∙◌, ◌∷◌, [], ap, sym}
use Rattle.cluster_map.specs.Targets.{left_in}
use Rattle.cluster_map.specs.Inner.NodeSets.{after_addresses}
use Rattle.cluster_map.proofs.NodeSets.{after_one, after_both}
use Rattle.cluster_map.proofs.slot_map.node_set.source.write_range.Goals as goal

pub loop-node-preserved : goal.loop-node-preserved
loop-node-preserved c =
    let old = c.loop-node.state in
    let node = c.in-Some.node.now in
    let rest = left_in c.next.new.self in (
      tt,
      tt,
      ap (λ s. after_addresses s rest) (after_one old node c.hash.ensures)
          ∙ after_both old (node ∷ []) rest
          ∙ ap (after_addresses old) (sym c.in-Some.ensures.steps)
          ∙ c.loop-node.invariant.2,
    )

pub returns : goal.returns
returns c = ap (after_addresses c.loop-node.state) (sym c.in-None.ensures.steps.0) ∙ c.loop-node.invariant.2
