use Rattle.std.proofs.Common.{◌≡◌, ◌+◌, ap, sym, ◌∙◌, arith, rules, map, drop, ◌+ℤ◌, FitsSigned, to_z, of_z, w64}
use Rattle.std.specs.Int.{w128}
use Rattle.std.proofs.lemmas.Int.{ints}
use Rattle.resp_core.specs.View.{view}
use Rattle.redis_combiners.proofs.Running.{fold_on, fold_step}
use Rattle.redis_combiners.proofs.sums.sum.Goals as goal

pub loop-value-preserved : goal.loop-value-preserved
loop-value-preserved c =
    let n = c.in_ok-n.n in
    let t = to_z w128 c.loop-value.total-bits in
    let inv = c.loop-value.invariant in
    let vs = c.args.values.now in
    let fits : FitsSigned w64 n = search rules in
    let plus : to_z w128 (of_z w128 (to_z w128 c.loop-value.total-bits +ℤ to_z w128 (of_z w128 c.from-total.result))) ≡ t +ℤ n = omega (arith, ints) in
    record {
      so_far = ap (λ a. fold_on ◌+ℤ◌ a (map view (drop (c.loop-value.value-index + 1) vs))) plus
          ∙ sym (fold_step ◌+ℤ◌ t n vs c.loop-value.value-index c.value-item.result c.loop-value-test.true c.value-item.is c.in_ok-n.ensures)
          ∙ inv.so_far;
      low = omega (arith, ints);
      high = omega (arith, ints);
    }
