use Rattle.std.proofs.Common.{◌≡◌, ◌<◌, ◌+◌, ◌*◌, ◌++◌, ◌^◌, ◌%◌, ◌/◌, get_or, replicate, bit_xor, ap, sym, ◌∙◌, arith}
use Rattle.std.proofs.lemmas.Nat.{xor_lt}
use Rattle.cluster_slots.specs.KeySlot.{rem, low_bits, zeros_down}
use Rattle.cluster_slots.proofs.Crc.{byte_and_zeros, two_steps}
use Rattle.cluster_slots.proofs.slot.update_by_two.Goals as goal

pub returns : goal.returns
returns c =
    let n = 8 * c.args.after in
    let high = bit_xor (c.args.crc / 256 % 256) c.args.a in
    let low = bit_xor (c.args.crc % 256) c.args.b in
    let high_lt : high < 2 ^ 8 = xor_lt 8 (c.args.crc / 256 % 256) c.args.a (omega arith) c.ranges.a.fits in
    let low_lt : low < 2 ^ 8 = xor_lt 8 (c.args.crc % 256) c.args.b (omega arith) c.ranges.b.fits in
    let more : 16 + 8 * (c.args.after + 1) ≡ 24 + n = omega arith in
    let first : c.remainder.result ≡ zeros_down (24 + n) high =
    c.remainder.ensures ∙ ap (λ bytes. rem (low_bits (bit_xor (get_or bytes 0 0) c.args.a) 8 ++ replicate (16 + 8 * (c.args.after + 1)) 0)) c.to_be_bytes.ensures
    ∙ byte_and_zeros (16 + 8 * (c.args.after + 1)) high high_lt ∙ ap (λ k. zeros_down k high) more in
    let second : c.remainder-2.result ≡ zeros_down (16 + n) low =
    c.remainder-2.ensures ∙ ap (λ bytes. rem (low_bits (bit_xor (get_or bytes 1 0) c.args.b) 8 ++ replicate (16 + n) 0)) c.to_be_bytes.ensures ∙ byte_and_zeros (16 + n) low low_lt in
    rw (first, second) (sym (two_steps n c.args.crc c.args.a c.args.b c.ranges.crc.fits c.ranges.a.fits c.ranges.b.fits))
