use Rattle.std.proofs.Common.{◌∙◌, ap, sym, fold}
use Rattle.cluster_map.specs.SlotNodes.{nodes_in}
use Rattle.cluster_map.specs.Targets.{left_in}
use Rattle.cluster_map.proofs.Members.{add_new, added_more}
use Rattle.cluster_map.proofs.slot_map.addresses.insert_all.Goals as goal

pub loop-address-preserved : goal.loop-address-preserved
loop-address-preserved c =
    let keys = c.in_ok-insert_full.ensures.nodes in (
      tt,
      tt,
      ap (λ z. fold add_new z (left_in c.next.new.self)) keys
          ∙ ap (fold add_new c.loop-address.seen) (sym c.in-Some.ensures.steps)
          ∙ c.loop-address.invariant.2,
    )

pub returns : goal.returns
returns c before is =
    ap (fold add_new c.loop-address.seen) (sym c.in-None.ensures.steps.0)
    ∙ c.loop-address.invariant.2
    ∙ added_more before (nodes_in c.args.addrs.now) c.args.seen.now is
