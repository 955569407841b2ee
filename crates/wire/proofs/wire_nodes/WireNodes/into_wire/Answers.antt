use Rattle.std.proofs.Common.{◌≡◌, refl, subst}
use Rattle.std.specs.Prelude.{⊤}
use Rattle.redis_cluster.specs.Amid.{IsServedAmid}
use Rattle.redis_cluster.specs.Retried.{IsTryOf}
use Rattle.redis_routing.specs.Registry.{Registrations}
use Rattle.wire.specs.Amid.{IsServedAt}
use Rattle.wire.specs.Said.{replies_in}
use Rattle.wire.proofs.Amid.{served_at, served_at_retries}
use Rattle.wire.proofs.Beside.{kept_beside}
use Rattle.wire.proofs.wire_nodes.WireNodes.into_wire.Goals as goal

pub returns-clause-beside : goal.returns-clause-beside
returns-clause-beside g c =
    λ own among kept. kept_beside own g.M.Meaning.step c.args.self.registry g.M.Meaning.took (g.W.Wire.log c.args.self.wire) g.M.Meaning.initial g.M.Meaning.initial among (λ key is. refl) kept

pub returns-clause-amid : goal.returns-clause-amid
returns-clause-amid g c =
    λ asked before value same delivered amid.
    let log = g.W.Wire.log c.args.self.wire in
    subst (λ (registered : Registrations). IsServedAmid g.M.Meaning.Cell registered asked.arguments asked.order (λ replies. replies ≡ replies_in before) (λ replies. replies ≡ replies_in log) value
    → IsServedAt g.M.Meaning.Cell registered asked.arguments before log value) same
    (served_at g.M.Meaning.Cell asked _ before log value delivered) amid

pub returns-clause-amid_retried : goal.returns-clause-amid_retried
returns-clause-amid_retried g c =
    λ asked retries before value same tried amid.
    let log = g.W.Wire.log c.args.self.wire in
    subst (λ (registered : Registrations). IsServedAmid g.M.Meaning.Cell registered asked.arguments asked.order (λ replies. replies ≡ replies_in before) (λ replies. replies ≡ replies_in log) value
    → IsServedAt g.M.Meaning.Cell registered asked.arguments before log value) same
    (served_at_retries g.M.Meaning.Cell asked (IsTryOf (λ route address. ⊤) retries) (λ route try is. is.part) before log value tried) amid
