use Rattle.std.proofs.Common.{◌∙◌}
use Rattle.cluster_slots.proofs.Crc.{crc_by_bytes}
use Rattle.cluster_slots.proofs.slot.crc16.Goals as goal

pub returns : goal.returns
returns c = c.update_by_last.ensures ∙ c.loop-rest.invariant ∙ crc_by_bytes c.args.bytes.now (λ i. (c.type_inv.bytes i).fits)
