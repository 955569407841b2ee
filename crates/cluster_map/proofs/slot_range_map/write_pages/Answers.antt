use Rattle.std.proofs.Common.{◌≡◌, ◌+◌, ◌*◌, ◌^◌, arith}
use Rattle.std.proofs.lemmas.Grind.{common_steps}
use Rattle.std.proofs.Math.Nat.{mod-le}
use Rattle.cluster_map.proofs.Pages.{below-more}
use Rattle.cluster_map.proofs.slot_range_map.write_pages.Goals as goal

pub loop-page-preserved : goal.loop-page-preserved
loop-page-preserved c =
    let so_far = c.loop-page.invariant in
    let begins = c.loop-page.page * 2 ^ c.args.page_bits in
    let low = mod-le c.place_from-known.result 65536 in
    let step = mod-le (1 * 2 ^ c.args.page_bits) 65536 in
    let here = below-more c.loop-page.first begins c.args.ends.now so_far.first in
    let next : (c.loop-page.page + 1) * 2 ^ c.args.page_bits ≡ begins + 2 ^ c.args.page_bits = omega arith in
    let later = below-more c.loop-page.first c.saturating_add-first.result c.args.ends.now (omega arith) in
    record {
      numbers = λ page d within. grind (arith, common_steps, so_far.numbers page d, c.place_from-known.ensures.place);
      known = omega arith;
      first = omega arith;
      fits = c.saturating_add-first.type_inv;
    }

pub returns : goal.returns
returns c = λ page d within. c.loop-page.invariant.numbers page d (omega arith)
