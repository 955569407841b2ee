use Rattle.std.proofs.Common.{◌≤◌, ◌∙◌, ap, fold, bit_xor, get_or, length, arith}
use Rattle.std.proofs.lemmas.List.{take_rest}
use Rattle.cluster_slots.proofs.Crc.{next_register, byte_and_zeros, four_steps}
use Rattle.cluster_slots.proofs.slot.update_by_last.Goals as goal

pub returns-in-len4-up : goal.returns-in-len4-up
returns-in-len4-up c =
    let bytes = c.args.bytes.now in
    let size : 4 ≤ length bytes = omega arith in
    c.update_by_few-in-len4-up.ensures
    ∙ ap (fold next_register (bit_xor c.update_by_two.result (bit_xor c.remainder.result c.remainder-in-len4-up.result))) (take_rest bytes 4)
    ∙ four_steps c.args.crc bytes c.update_by_two.result c.remainder.result c.remainder-in-len4-up.result c.ranges.crc.fits (λ i. (c.type_inv.bytes i).fits) size c.update_by_two.ensures
    (c.remainder.ensures ∙ byte_and_zeros 24 (get_or bytes 2 0) (c.type_inv.bytes 2).fits)
    (c.remainder-in-len4-up.ensures ∙ byte_and_zeros 16 (get_or bytes 3 0) (c.type_inv.bytes 3).fits)
