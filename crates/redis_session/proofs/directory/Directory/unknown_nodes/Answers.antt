use Rattle.std.proofs.Common.{◌≡◌, ◌∙◌, All, Global, Vec, ap, subst, sym}
use Rattle.cluster_map.specs.EachOnce.{all_nodes_in}
use Rattle.cluster_map.specs.Targets.{addresses_behind}
use Rattle.cluster_slots.specs.Address.{Address}
use Rattle.redis_session.specs.Directory.{Directory}
use Rattle.redis_session.specs.Learned.{IsInMap}
use Rattle.redis_session.proofs.Listed.{one_unknown}
use Rattle.redis_session.proofs.directory.Directory.unknown_nodes.Goals.{then-is_none+in_ok-clone+in_ok-push, else-is_none}
use Rattle.redis_session.proofs.directory.Directory.unknown_nodes.Goals as goal

pub loop-address-preserved : goal.loop-address-preserved
loop-address-preserved c =
    let refs = c.deref-address-items.result.now in
    let d = c.args.self.now in
    let are : addresses_behind refs ≡ all_nodes_in d.table.map =
    ap addresses_behind c.deref-address-items.ensures.value ∙ c.in_ok-addresses.ensures ∙ ap (λ (d : Directory). all_nodes_in d.table.map) c.self.view_is in
    elim c.if-is_none.branch [
      | then-is_none+in_ok-clone+in_ok-push w ↦ one_unknown refs (all_nodes_in d.table.map) are c.loop-address.address-index c.address-item.result c.loop-address-test.true c.address-item.is
          w.in_ok-clone.field-0 c.loop-address.unknown.items c.if-is_none.unknown.items c.loop-address.invariant w.in_ok-clone.ensures.cases
          (ap (λ (v : Vec Address Global). v.items) w.unknown-is ∙ w.in_ok-push.ensures.items)
      | else-is_none w ↦ subst (λ (v : Vec Address Global). All (IsInMap d.table) v.items) (sym w.unknown-is) c.loop-address.invariant
    ]
