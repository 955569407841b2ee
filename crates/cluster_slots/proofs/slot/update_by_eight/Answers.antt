use Rattle.std.proofs.Common.{◌≡◌, ◌∷◌, [], fold, sym, ◌∙◌}
use Rattle.cluster_slots.specs.KeySlot.{zeros_down}
use Rattle.cluster_slots.proofs.Crc.{next_register, byte_and_zeros, six_more, two_lt}
use Rattle.cluster_slots.proofs.slot.update_by_eight.Goals as goal

pub returns : goal.returns
returns c =
    let two = fold next_register c.args.crc (c.args.a ∷ c.args.b ∷ []) in
    let first : c.update_by_two.result ≡ zeros_down 48 two = c.update_by_two.ensures in
    let third : c.remainder.result ≡ zeros_down 56 c.args.c = c.remainder.ensures ∙ byte_and_zeros 56 c.args.c c.ranges.c.fits in
    let fourth : c.remainder-2.result ≡ zeros_down 48 c.args.d = c.remainder-2.ensures ∙ byte_and_zeros 48 c.args.d c.ranges.d.fits in
    let fifth : c.remainder-3.result ≡ zeros_down 40 c.args.e = c.remainder-3.ensures ∙ byte_and_zeros 40 c.args.e c.ranges.e.fits in
    let sixth : c.remainder-4.result ≡ zeros_down 32 c.args.f = c.remainder-4.ensures ∙ byte_and_zeros 32 c.args.f c.ranges.f.fits in
    let seventh : c.remainder-5.result ≡ zeros_down 24 c.args.g = c.remainder-5.ensures ∙ byte_and_zeros 24 c.args.g c.ranges.g.fits in
    let eighth : c.remainder-6.result ≡ zeros_down 16 c.args.h = c.remainder-6.ensures ∙ byte_and_zeros 16 c.args.h c.ranges.h.fits in
    rw (first, third, fourth, fifth, sixth, seventh, eighth)
    (sym (six_more two c.args.c c.args.d c.args.e c.args.f c.args.g c.args.h (two_lt c.args.crc c.args.a c.args.b c.ranges.crc.fits c.ranges.a.fits c.ranges.b.fits)
    c.ranges.c.fits c.ranges.d.fits c.ranges.e.fits c.ranges.f.fits c.ranges.g.fits c.ranges.h.fits))
