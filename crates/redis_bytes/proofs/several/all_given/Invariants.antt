use Rattle.std.proofs.Common.{◌≡◌, ◌++◌, Some, map}
use Rattle.redis_bytes.proofs.several.all_given.Given as goal

abbrev pub invariant-loop-answer : goal.invariant-loop-answer
invariant-loop-answer l =
    (goal.iterator-loop-answer).can_next l.answer-iterator
    × (goal.iterator-loop-answer).is_finite l.answer-iterator
    × (l.given.items ++ map Some l.answer-iterator.rest.items ≡ map Some l.fn.answers.items)
