use Rattle.std.proofs.Common.{map, reverse}
use Rattle.resp_core.specs.View.{view}
use Rattle.resp_core.specs.Copying.{IsWalk}
use Rattle.resp_core.proofs.Copying.{size_of_all}
use Rattle.resp_core.proofs.value.copying.in_order.Given as goal

abbrev pub invariant-loop-next : goal.invariant-loop-next
invariant-loop-next l = IsWalk (view l.value) (reverse (map (λ v. view v.now) l.order.items)) (map (λ v. view v.now) l.waiting.items)

abbrev pub decreases-loop-next : goal.decreases-loop-next
decreases-loop-next l = size_of_all (map (λ v. view v.now) l.waiting.items)
