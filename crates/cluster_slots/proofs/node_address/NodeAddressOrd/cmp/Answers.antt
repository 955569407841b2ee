use Rattle.std.proofs.Common.{◌≡◌, rules}
use Rattle.cluster_slots.specs.Address.{address_cmp}
use Rattle.cluster_slots.proofs.Orders.{equal_law}
use Rattle.cluster_slots.proofs.node_address.NodeAddressOrd.cmp.Goals as goal

pub returns-clause-equal : goal.returns-clause-equal
returns-clause-equal c =
    let is : c.then.result ≡ address_cmp c.args.self.now c.args.other.now = search rules in
    rw is (equal_law c.args.self.now c.args.other.now)
