use Rattle.cluster_slots.proofs.AddressTexts.{printed_law}
use Rattle.cluster_slots.proofs.node_address.split_node_address.Goals as goal

pub returns-clause-printed : goal.returns-clause-printed
returns-clause-printed c = printed_law c.args.text.now
