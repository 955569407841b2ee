use Rattle.std.proofs.Common.{rules, ◌≡◌, ◌∙◌, ◌+◌, ◌++◌, ◌∷◌, [], ap, arith, length, sym, take}
use Rattle.std.proofs.lemmas.List.{length-map, map-append, map_push, take_more}
use Rattle.cluster_map.specs.Targets.{addresses_behind}
use Rattle.cluster_map.specs.Numbered.{index_of}
use Rattle.cluster_map.proofs.Members.{add_new}
use Rattle.cluster_map.proofs.Numbering.{added_known, added_unknown, numbered_next}
use Rattle.cluster_map.proofs.slot_map.node_set.numbering.number_few.Goals as goal
use Rattle.cluster_map.proofs.slot_map.node_set.numbering.number_few.Goals.{then-number-len+else-number-eq-MOST_COMPARED+in_ok-push, else-number-len}

pub loop-node-preserved : goal.loop-node-preserved
loop-node-preserved c =
    let nodes = c.args.nodes.now in
    let i = c.loop-node.node-index in
    let node = c.node-item.result in
    let refs = c.loop-node.found.items in
    let found = addresses_behind refs in
    let number = c.index_in-number.result in
    let long : c.len.result ≡ length found = omega (arith, c.len.ensures, c.loop-node.found.ok.0, length-map refs (λ r. r.now)) in
    let is : number ≡ index_of node.now found = c.index_in-number.ensures ∙ ap (λ f. index_of node.now (addresses_behind f)) c.deref.ensures.value in
    let grown : addresses_behind c.if-number-len.found.items ≡ add_new found node.now = elim c.if-number-len.branch [
      | then-number-len+else-number-eq-MOST_COMPARED+in_ok-push w ↦
          ap (λ v. addresses_behind v.items) w.found-is ∙ ap addresses_behind w.in_ok-push.ensures.items ∙ map_push (λ r. r.now) refs node
          ∙ sym (added_unknown node.now found number is (w.if-number-len.true ∙ long))
      | else-number-len w ↦
          ap (λ v. addresses_behind v.items) w.found-is ∙ sym (added_known node.now found number is (λ e. w.if-number-len.false (e ∙ sym long)))
    ] in
    let more : take (i + 1) nodes ≡ take i nodes ++ node ∷ [] = search (rules, take_more) in
    let listed : addresses_behind (take (i + 1) nodes) ≡ addresses_behind (take i nodes) ++ node.now ∷ [] = ap addresses_behind more ∙ map-append (λ r. r.now) (take i nodes) (node ∷ []) in
    rw (listed, grown, c.in_ok-push-2.ensures.items, is)
    (numbered_next (addresses_behind (take i nodes)) found c.loop-node.numbers.items node.now c.loop-node.invariant)
