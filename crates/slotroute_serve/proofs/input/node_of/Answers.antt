use Rattle.std.proofs.Common.{subst}
use Rattle.cluster_map.specs.AddressText.{IsNoAddress}
use Rattle.slotroute_serve.proofs.input.node_of.Goals as goal

pub returns-in_default-split_node_address : goal.returns-in_default-split_node_address
returns-in_default-split_node_address c = λ address field.
    subst IsNoAddress c.in-Ok.ensures.cases.0 c.in_default-split_node_address.ensures.refused.1 address.host address.port field.1
