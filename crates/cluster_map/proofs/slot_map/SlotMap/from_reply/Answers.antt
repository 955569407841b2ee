use Rattle.std.proofs.Common.{rules}
use Rattle.cluster_map.proofs.ReplyNodes.{found_by_reply}
use Rattle.cluster_map.proofs.slot_map.SlotMap.from_reply.Goals as goal

pub returns-clause-node : goal.returns-clause-node
returns-clause-node c = found_by_reply _ _ _ (search rules)
