use Rattle.std.proofs.Common.{◌≡◌, ◌++◌, map, length}
use Rattle.uses.proofs.Ended.{with_told}
use Rattle.uses.proofs.batcher.gather.Given as goal

abbrev pub invariant-loop-number : goal.invariant-loop-number
invariant-loop-number l =
    (l.number-iterator.count ≡ length l.yielded)
    × (l.plan ≡ with_told l.fn.plan (map (λ p. p.1) l.yielded))
    × (l.initial.number-iterator.iter.rest.items
    ≡ map (λ p. p.1) l.yielded ++ l.number-iterator.iter.rest.items)
