use Rattle.std.proofs.Common.{◌≡◌, ◌∙◌, ◌++◌, ◌∷◌, [], ap, arith, length, map, sym, append_assoc}
use Rattle.std.proofs.lemmas.Grind.{common_steps}
use Rattle.std.proofs.lemmas.List.{append-nil, length-map, map_push}
use Rattle.cluster_map.specs.EachOnce.{each_once}
use Rattle.cluster_map.specs.Numbered.{index_of}
use Rattle.cluster_map.specs.Targets.{addresses_behind}
use Rattle.cluster_map.proofs.Members.{add_new, added_more}
use Rattle.cluster_map.proofs.Numbering.{added_known, added_unknown}
use Rattle.cluster_map.proofs.RangePrimaries.{range_primary, primaries_last, primaries_in}
use Rattle.cluster_map.proofs.slot_map.primaries.primaries_of_few.Goals as goal

-- a node that is found already
pub loop-addrs-preserved : goal.loop-addrs-preserved
loop-addrs-preserved c =
    let done = c.loop-addrs.invariant.2.0 in
    let nodes = c.in-Some.addrs.now in
    let refs = c.loop-addrs.found.items in
    let found = addresses_behind refs in
    let node = c.primary-node.result in
    let index = c.index_in-index.result in
    let long : c.len-in-loop-addrs.result ≡ length found = omega (arith, c.len-in-loop-addrs.ensures, c.loop-addrs.found.ok.0, length-map refs (λ r. r.now)) in
    let is : index ≡ index_of node.now found = c.index_in-index.ensures ∙ ap (λ f. index_of node.now (addresses_behind f)) c.deref.ensures.value in (
      tt,
      tt,
      (
        done ++ nodes ∷ [],
        append_assoc done (nodes ∷ []) c.next.new.self ∙ ap (λ z. done ++ z) (sym c.in-Some.ensures.steps) ∙ c.loop-addrs.invariant.2.1,
        sym (added_known node.now found index is (λ e. c.if-index-len.false (e ∙ sym long)))
            ∙ ap (add_new found) c.primary-node.ensures
            ∙ added_more (map range_primary done) (nodes.primary ∷ []) found c.loop-addrs.invariant.2.2
            ∙ ap each_once (sym (primaries_last done nodes)),
      ),
    )

-- a new one
pub loop-addrs-preserved-in-Continue-branch-2 : goal.loop-addrs-preserved-in-Continue-branch-2
loop-addrs-preserved-in-Continue-branch-2 c =
    let done = c.loop-addrs.invariant.2.0 in
    let nodes = c.in-Some.addrs.now in
    let refs = c.loop-addrs.found.items in
    let found = addresses_behind refs in
    let node = c.primary-node.result in
    let index = c.index_in-index.result in
    let long : c.len-in-loop-addrs.result ≡ length found = omega (arith, c.len-in-loop-addrs.ensures, c.loop-addrs.found.ok.0, length-map refs (λ r. r.now)) in
    let is : index ≡ index_of node.now found = c.index_in-index.ensures ∙ ap (λ f. index_of node.now (addresses_behind f)) c.deref.ensures.value in (
      tt,
      tt,
      (
        done ++ nodes ∷ [],
        append_assoc done (nodes ∷ []) c.next.new.self ∙ ap (λ z. done ++ z) (sym c.in-Some.ensures.steps) ∙ c.loop-addrs.invariant.2.1,
        ap addresses_behind c.in_ok-push.ensures.items ∙ map_push (λ r. r.now) refs node
            ∙ sym (added_unknown node.now found index is (c.if-index-len.true ∙ long))
            ∙ ap (add_new found) c.primary-node.ensures
            ∙ added_more (map range_primary done) (nodes.primary ∷ []) found c.loop-addrs.invariant.2.2
            ∙ ap each_once (sym (primaries_last done nodes)),
      ),
    )

pub returns : goal.returns
returns c = grind (arith, append-nil, range_primary, primaries_in c.args.ranges.now, common_steps)
