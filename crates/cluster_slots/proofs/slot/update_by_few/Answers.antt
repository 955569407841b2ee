use Rattle.std.proofs.Common.{◌≡◌, ◌∙◌, get_or, length, arith}
use Rattle.cluster_slots.proofs.Crc.{byte_and_zeros, three_steps}
use Rattle.cluster_slots.proofs.slot.update_by_few.Goals as goal

pub returns-in-len3 : goal.returns-in-len3
returns-in-len3 c =
    let bytes = c.args.bytes.now in
    let size : length bytes ≡ 3 = omega arith in
    three_steps c.args.crc bytes c.update_by_two-in-len3.result c.remainder.result c.ranges.crc.fits (λ i. (c.type_inv.bytes i).fits) size c.update_by_two-in-len3.ensures
    (c.remainder.ensures ∙ byte_and_zeros 16 (get_or bytes 2 0) (c.type_inv.bytes 2).fits)
