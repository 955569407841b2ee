use Rattle.std.proofs.Common.{◌≡◌, Some, ◌∙◌, sym, subst}
use Rattle.std.specs.Prelude.{slice_get}
use Rattle.cluster_slots.specs.Address.{Address}
use Rattle.cluster_slots.proofs.Orders.{same_from_address}
use Rattle.redis_session.proofs.directory.Directory.number.Goals as goal

pub returns-then-eq : goal.returns-then-eq
returns-then-eq c =
    let same = same_from_address c.in_ok-known.known.now c.args.address.now (sym c.eq.ensures ∙ c.if-eq.true) in
    subst (λ (a : Address). slice_get c.args.self.now.nodes c.in_ok-node.field-0.now ≡ Some a) same c.in_ok-known.ensures.some
