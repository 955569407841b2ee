use Rattle.std.proofs.Common.{◌≡◌, ◌+◌, ◌++◌, ◌∷◌, [], ap, ◌∙◌, sym, take, rules}
use Rattle.std.proofs.lemmas.List.{map-append, take_all, take_more}
use Rattle.cluster_map.specs.Targets.{addresses_behind}
use Rattle.cluster_map.specs.Inner.NodeSets.{after_addresses}
use Rattle.cluster_map.proofs.NodeSets.{after_one, after_both}
use Rattle.cluster_map.proofs.slot_map.node_set.source.write_list.Goals as goal

pub loop-node-preserved : goal.loop-node-preserved
loop-node-preserved c =
    let nodes = c.args.nodes.now in
    let i = c.loop-node.node-index in
    let node = c.node-item.result in
    let more : take (i + 1) nodes ≡ take i nodes ++ node ∷ [] = search (rules, take_more) in
    let behind : addresses_behind (take (i + 1) nodes) ≡ addresses_behind (take i nodes) ++ node.now ∷ [] = ap addresses_behind more ∙ map-append (λ r. r.now) (take i nodes) (node ∷ []) in
    after_one c.loop-node.state node.now c.hash.ensures
    ∙ ap (λ s. after_addresses s (node.now ∷ [])) c.loop-node.invariant
    ∙ after_both c.args.state.now (addresses_behind (take i nodes)) (node.now ∷ [])
    ∙ ap (after_addresses c.args.state.now) (sym behind)

pub returns : goal.returns
returns c =
    c.loop-node.invariant
    ∙ ap (λ ns. after_addresses c.args.state.now (addresses_behind ns)) (take_all c.loop-node.node-index c.args.nodes.now c.loop-node-test.false)
