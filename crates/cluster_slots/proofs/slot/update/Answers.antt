use Rattle.std.proofs.Common.{◌<◌, ◌^◌, ◌*◌, ◌%◌, ◌/◌, bit_xor, ap, sym, ◌∙◌, arith}
use Rattle.std.proofs.lemmas.Nat.{xor_lt}
use Rattle.cluster_slots.proofs.Crc.{byte_and_zeros, byte_step}
use Rattle.cluster_slots.proofs.slot.update.Goals as goal

pub returns : goal.returns
returns c =
    let high : bit_xor (c.args.crc / 256) c.args.byte < 2 ^ 8 = xor_lt 8 (c.args.crc / 256) c.args.byte (omega arith) c.ranges.byte.fits in
    ap (bit_xor (c.args.crc * 256 % 65536)) (c.remainder.ensures ∙ byte_and_zeros 16 (bit_xor (c.args.crc / 256) c.args.byte) high)
    ∙ sym (byte_step c.args.crc c.args.byte c.ranges.crc.fits c.ranges.byte.fits)
