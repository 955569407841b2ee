use Rattle.std.proofs.Common.{◌≡◌, ◌++◌, ◌≤◌, map, drop, length}
use Rattle.resp_core.specs.View.{view, view_pair}
use Rattle.resp_core.specs.Reply.{pairs_of}
use Rattle.resp_core.specs.Copying.{inside_pairs}
use Rattle.resp_core.proofs.value.copying.add_pairs.Given as goal

abbrev pub invariant-loop-left : goal.invariant-loop-left
invariant-loop-left l =
    (l.left ≤ length l.items.items)
    × (map (λ v. view v.now) l.waiting.items ≡ map (λ v. view v.now) l.initial.waiting.items ++ inside_pairs (pairs_of (map view_pair (drop l.left l.items.items))))

abbrev pub decreases-loop-left : goal.decreases-loop-left
decreases-loop-left l = l.left
