use Rattle.std.proofs.Common.{map, reverse, length}
use Rattle.resp_core.specs.View.{view}
use Rattle.resp_core.specs.Copying.{IsWalk}
use Rattle.resp_core.proofs.value.copying.copy_in_order.Given as goal

abbrev pub invariant-loop-next : goal.invariant-loop-next
invariant-loop-next l = IsWalk (view l.value) (reverse (map (λ v. view v.now) l.order.items)) (map view l.copies.items)

abbrev pub decreases-loop-next : goal.decreases-loop-next
decreases-loop-next l = length l.order.items
