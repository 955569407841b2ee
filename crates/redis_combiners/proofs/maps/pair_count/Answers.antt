use Rattle.std.proofs.Common.{map, take, ◌≡◌, ◌+◌, ◌++◌, ◌∷◌, [], arith, rules}
use Rattle.std.proofs.lemmas.Grind.{common_steps}
use Rattle.std.proofs.lemmas.List.{length-map, map-append, take_all, take_more}
use Rattle.std.proofs.lemmas.List.Sums.{sum_by-append}
use Rattle.resp_core.specs.View.{view}
use Rattle.redis_combiners.proofs.TotalOrders.{count_all}
use Rattle.redis_combiners.proofs.maps.pair_count.Goals as goal
use Rattle.redis_combiners.proofs.maps.pair_count.Goals.{in-Some, in_default}

pub loop-value-preserved : goal.loop-value-preserved
loop-value-preserved c =
    let values = c.args.values.now in
    let i = c.loop-value.value-index in
    let more : take (i + 1) values ≡ take i values ++ c.value-item.result ∷ [] = search (rules, take_more) in
    let before = c.loop-value.invariant in
    elim c.match-as_array.branch [
      | in-Some w ↦ grind (arith, common_steps, map-append, sum_by-append, length-map)
      | in_default w ↦ grind (arith, common_steps, map-append, sum_by-append)
    ]

pub returns : goal.returns
returns c =
    let values = c.args.values.now in
    let whole : take c.loop-value.value-index values ≡ values = take_all c.loop-value.value-index values c.loop-value-test.false in
    let counted = rw whole at c.loop-value.invariant in
    let all = count_all (map view values) in
    grind (arith, common_steps)
