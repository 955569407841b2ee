use Rattle.std.proofs.Common.{◌≡◌, ◌++◌, map, Ok}
use Rattle.uses.proofs.batcher.replies_in.Given as goal

abbrev pub invariant-loop-answer : goal.invariant-loop-answer
invariant-loop-answer l =
    (l.yielded ≡ map Ok l.replies.items)
    × (l.fn.answers.items ≡ l.yielded ++ l.answer-iterator.rest.items)
