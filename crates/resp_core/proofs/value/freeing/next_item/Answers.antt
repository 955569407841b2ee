use Rattle.std.proofs.Common.{arith, rules, ap}
use Rattle.resp_core.specs.View.{view}
use Rattle.resp_core.specs.Freeing.{steps_in, steps_above}
use Rattle.resp_core.proofs.Views.{view-Array}
use Rattle.resp_core.proofs.Freeing.{next-item}
use Rattle.resp_core.proofs.value.freeing.next_item.Goals as goal

pub returns-in-Some-into_nested : goal.returns-in-Some-into_nested
returns-in-Some-into_nested c =
    let next = next-item c.pop.new.self c.loop-last.items c.in-Some.last (search rules) (search rules) in
    omega (arith, next, ap (λ v. steps_in (view v)) c.in-Some-into_nested.ensures, c.loop-last.invariant)

pub loop-last-preserved : goal.loop-last-preserved
loop-last-preserved c =
    let next = next-item c.pop.new.self c.loop-last.items c.in-Some.last (search rules) (search rules) in
    omega (arith, next, ap steps_above (view-Array c.pop.new.self), c.loop-last.invariant)
