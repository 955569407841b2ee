use Rattle.std.proofs.Common.{◌+◌, drop, get_or, arith}
use Rattle.std.proofs.lemmas.List.{at_drop_more, at_drop_all}
use Rattle.cluster_map.proofs.Places.{below, below-most}
use Rattle.cluster_map.proofs.Pages.{below-one}
use Rattle.cluster_map.proofs.slot_range_map.count_below.Goals as goal

pub loop-other-init : goal.loop-other-init
loop-other-init c = let most = below-most c.args.end c.args.ends.now in record { counted = omega arith; most = omega arith }

pub overflow_add-below : goal.overflow_add-below
overflow_add-below c =
    let step = at_drop_more (below c.args.end) c.args.ends.now c.loop-other.other-index 0 c.loop-other-test.true in
    let one = below-one c.args.end (get_or c.args.ends.now c.loop-other.other-index 0) (drop (c.loop-other.other-index + 1) c.args.ends.now) c.from-below.result c.from-below.ensures in
    omega arith

pub loop-other-preserved : goal.loop-other-preserved
loop-other-preserved c =
    let step = at_drop_more (below c.args.end) c.args.ends.now c.loop-other.other-index 0 c.loop-other-test.true in
    let one = below-one c.args.end (get_or c.args.ends.now c.loop-other.other-index 0) (drop (c.loop-other.other-index + 1) c.args.ends.now) c.from-below.result c.from-below.ensures in
    record { counted = omega arith; most = c.loop-other.invariant.most }

pub returns : goal.returns
returns c =
    let none = at_drop_all (below c.args.end) c.args.ends.now c.loop-other.other-index c.loop-other-test.false in
    omega arith
