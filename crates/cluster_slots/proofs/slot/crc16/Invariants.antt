use Rattle.std.proofs.Common.{◌≡◌, fold, length}
use Rattle.cluster_slots.proofs.Crc.{next_register}
use Rattle.cluster_slots.proofs.slot.crc16.Given as goal

-- the bytes that are left make of the register what all make of 0
abbrev pub invariant-loop-rest : goal.invariant-loop-rest
invariant-loop-rest l = fold next_register l.crc l.rest ≡ fold next_register 0 l.fn.bytes

abbrev pub decreases-loop-rest : goal.decreases-loop-rest
decreases-loop-rest l = length l.rest
