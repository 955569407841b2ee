use Rattle.std.proofs.Common.{All, subst, sym}
use Rattle.cluster_map.specs.EachOnce.{primaries_in}
use Rattle.redis_session.specs.Directory.{Directory, IsKnownAmong}
use Rattle.redis_session.proofs.SlotNumbers.{kept_primaries}
use Rattle.redis_session.proofs.directory.Directory.look_up_primaries.Goals as goal

pub invariant_of-self : goal.invariant_of-self
invariant_of-self c =
    let d : Directory = record { nodes = c.self.inside.addresses.items; table = c.self.inside.table } in
    kept_primaries c.self.inside.by_slot.items c.self.inside.primaries.items c.in_ok-self-inside.field-0.items d c.self.invariant
    (subst (λ (e : Directory). All (IsKnownAmong (primaries_in e.table.map) e.nodes) c.in_ok-self-inside.field-0.items) (sym c.self.view_is) c.in_ok-self-inside.ensures)
