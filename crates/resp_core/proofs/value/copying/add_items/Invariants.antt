use Rattle.std.proofs.Common.{◌≡◌, ◌++◌, map, take}
use Rattle.resp_core.specs.View.{view}
use Rattle.resp_core.proofs.value.copying.add_items.Given as goal

abbrev pub invariant-loop-item : goal.invariant-loop-item
invariant-loop-item l = map (λ v. view v.now) l.waiting.items ≡ map (λ v. view v.now) l.initial.waiting.items ++ map view (take l.item-index l.item-items)
