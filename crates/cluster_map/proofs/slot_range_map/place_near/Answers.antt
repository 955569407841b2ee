use Rattle.std.proofs.Common.{◌≡◌, ◌+◌, ◌-◌, take, drop, ap, ◌∙◌, arith}
use Rattle.std.specs.List.{slice_range}
use Rattle.cluster_map.proofs.Places.{below, below-most}
use Rattle.cluster_map.proofs.Pages.{below_near}
use Rattle.cluster_map.proofs.slot_range_map.place_near.Goals as goal

pub returns-then-below-lt-LANES : goal.returns-then-below-lt-LANES
returns-then-below-lt-LANES c =
    let first = c.min-first.result in
    let window = slice_range c.args.ends.now first (first + 16) in
    let lanes : first + 16 - first ≡ 16 = omega arith in
    let counted = c.count_below-below.ensures in
    let near = below_near c.args.end first c.args.ends.now window c.requires.rises (omega arith) (omega arith) (ap (λ n. take n (drop first c.args.ends.now)) lanes) (rw (← counted) c.if-below-lt-LANES.true) in
    let place : first + c.count_below-below.result ≡ below c.args.end c.args.ends.now = ap (λ n. first + n) counted ∙ near in
    let most = below-most c.args.end c.args.ends.now in
    record { place = place; bound = omega arith }
