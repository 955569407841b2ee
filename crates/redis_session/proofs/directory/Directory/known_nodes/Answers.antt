use Rattle.std.proofs.Common.{◌≡◌, ◌∙◌, ℕ, All, Global, Vec, ap, subst, sym}
use Rattle.cluster_map.specs.Targets.{addresses_behind}
use Rattle.redis_session.specs.Directory.{Directory, IsKnownAmong}
use Rattle.redis_session.specs.Table.{group_in}
use Rattle.redis_session.proofs.Listed.{one_known}
use Rattle.redis_session.proofs.directory.Directory.known_nodes.Goals.{in-Some+in_ok-push, in_default}
use Rattle.redis_session.proofs.directory.Directory.known_nodes.Goals as goal

pub loop-address-preserved : goal.loop-address-preserved
loop-address-preserved c =
    let refs = c.deref-address-items.result.now in
    let d = c.args.self.now in
    let are : addresses_behind refs ≡ group_in c.args.group d.table =
    ap addresses_behind c.deref-address-items.ensures.value ∙ c.in_ok-addresses.ensures ∙ ap (λ (d : Directory). group_in c.args.group d.table) c.self.view_is in
    elim c.match-number.branch [
      | in-Some+in_ok-push w ↦ one_known refs (group_in c.args.group d.table) are c.loop-address.address-index c.address-item.result c.loop-address-test.true c.address-item.is
          d.nodes w.in-Some.number c.loop-address.known.items c.match-number.known.items c.loop-address.invariant w.in-Some.ensures
          (ap (λ (v : Vec ℕ Global). v.items) w.known-is ∙ w.in_ok-push.ensures.items)
      | in_default w ↦ subst (λ (v : Vec ℕ Global). All (IsKnownAmong (group_in c.args.group d.table) d.nodes) v.items) (sym w.known-is) c.loop-address.invariant
    ]
