use Rattle.std.proofs.Common.{◌≡◌, Err}
use Rattle.std.specs.Result.{result_ok}
use Rattle.redis_combiners.specs.Answers.{answers_given, first_in, values_in, last_error}
use Rattle.redis_commands.specs.Policy.{refused, reply_or}
use Rattle.redis_commands.proofs.Running.{to_come}
use Rattle.redis_commands.proofs.combining.first_value.Given as goal

abbrev pub invariant-loop-answer : goal.invariant-loop-answer
invariant-loop-answer l =
    (goal.iterator-loop-answer).can_next l.answer-iterator
    × (goal.iterator-loop-answer).is_finite l.answer-iterator
    × (to_come result_ok l.last (answers_given l.answer-iterator.rest.items) (Err refused)
    ≡ reply_or (first_in (values_in (answers_given l.fn.told.items))) (last_error (answers_given l.fn.told.items)) (Err refused))
