use Rattle.std.proofs.Common.{◌∙◌, ◌++◌, ◌∷◌, [], map, ap, sym, append_assoc, arith}
use Rattle.std.proofs.lemmas.Grind.{common_steps}
use Rattle.std.proofs.lemmas.List.{append-nil}
use Rattle.cluster_map.specs.EachOnce.{each_once}
use Rattle.cluster_map.proofs.Members.{add_new, added_more}
use Rattle.cluster_map.proofs.RangePrimaries.{range_primary, primaries_last, primaries_in}
use Rattle.cluster_map.proofs.slot_map.primaries.primaries_of_many.Goals as goal

pub loop-addrs-preserved : goal.loop-addrs-preserved
loop-addrs-preserved c =
    let done = c.loop-addrs.invariant.2.0 in
    let nodes = c.in-Some.addrs.now in
    let old = c.loop-addrs.seen in
    let keys = c.in_ok-insert_full.ensures.nodes ∙ ap (add_new old) c.primary.ensures in (
      tt,
      tt,
      (
        done ++ nodes ∷ [],
        append_assoc done (nodes ∷ []) c.next.new.self ∙ ap (λ z. done ++ z) (sym c.in-Some.ensures.steps) ∙ c.loop-addrs.invariant.2.1,
        keys ∙ added_more (map range_primary done) (nodes.primary ∷ []) old c.loop-addrs.invariant.2.2 ∙ ap each_once (sym (primaries_last done nodes)),
      ),
    )

pub returns : goal.returns
returns c = grind (arith, append-nil, range_primary, primaries_in c.args.ranges.now, common_steps)
