use Rattle.std.proofs.Common.{◌≡◌, ◌<◌, ◌∷◌, ◌++◌, [], length, map, take, get_or, sym, ap, ◌∙◌, arith}
use Rattle.std.proofs.lemmas.List.{take_more_set, take_all, take_more, length-map, get_or-map}
use Rattle.cluster_map.specs.RangeMap.{end_of}
use Rattle.cluster_map.proofs.slot_range_map.write_ends.Goals as goal

pub loop-place-preserved : goal.loop-place-preserved
loop-place-preserved g c =
    let here = c.loop-place.place in
    let all = map end_of c.args.ranges.now in
    let within : here < length all = rw (length-map c.args.ranges.now end_of) c.loop-place-test.true in
    let end = end_of (get_or c.args.ranges.now here c.index-ranges-place.result) in
    let is : get_or all here 0 ≡ end = get_or-map end_of c.args.ranges.now here c.index-ranges-place.result 0 c.loop-place-test.true in
    let room : here < length c.loop-place.ends = omega arith in
    take_more_set c.loop-place.ends here end room ∙ ap (λ z. z ++ end ∷ []) c.loop-place.invariant ∙ ap (λ z. take here all ++ z ∷ []) (sym is) ∙ sym (take_more all here 0 within)

pub returns : goal.returns
returns g c =
    let size = length-map c.args.ranges.now end_of in
    sym (take_all c.loop-place.place c.loop-place.ends (omega arith)) ∙ c.loop-place.invariant ∙ take_all c.loop-place.place (map end_of c.args.ranges.now) (omega arith)
