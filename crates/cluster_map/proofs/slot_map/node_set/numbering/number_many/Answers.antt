use Rattle.std.proofs.Common.{rules, ◌≡◌, ◌∙◌, ◌+◌, ◌++◌, ◌∷◌, [], ap, take}
use Rattle.std.proofs.lemmas.List.{map-append, take_more}
use Rattle.cluster_map.specs.Targets.{addresses_behind}
use Rattle.cluster_map.proofs.Numbering.{numbered_next}
use Rattle.cluster_map.proofs.slot_map.node_set.numbering.number_many.Goals as goal

pub loop-node-preserved : goal.loop-node-preserved
loop-node-preserved c =
    let nodes = c.args.nodes.now in
    let i = c.loop-node.node-index in
    let node = c.node-item.result in
    let more : take (i + 1) nodes ≡ take i nodes ++ node ∷ [] = search (rules, take_more) in
    let listed : addresses_behind (take (i + 1) nodes) ≡ addresses_behind (take i nodes) ++ node.now ∷ [] = ap addresses_behind more ∙ map-append (λ r. r.now) (take i nodes) (node ∷ []) in
    rw (listed, c.in_ok-number.ensures.nodes, c.in_ok-push.ensures.items, c.in_ok-number.ensures.index)
    (numbered_next (addresses_behind (take i nodes)) c.loop-node.seen c.loop-node.numbers.items node.now c.loop-node.invariant)
