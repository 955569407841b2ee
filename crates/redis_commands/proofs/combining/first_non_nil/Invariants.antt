use Rattle.std.proofs.Common.{◌≡◌, Ok}
use Rattle.std.specs.Prelude.{filter_map}
use Rattle.resp_core.specs.Reply.{nil}
use Rattle.redis_combiners.specs.Answers.{answers_given, non_nil_in, first_in, last_error}
use Rattle.redis_commands.specs.Policy.{reply_or}
use Rattle.redis_commands.proofs.Running.{to_come}
use Rattle.redis_commands.proofs.combining.first_non_nil.Given as goal

abbrev pub invariant-loop-answer : goal.invariant-loop-answer
invariant-loop-answer l =
    (goal.iterator-loop-answer).can_next l.answer-iterator
    × (goal.iterator-loop-answer).is_finite l.answer-iterator
    × (to_come non_nil_in l.last (answers_given l.answer-iterator.rest.items) (Ok nil)
    ≡ reply_or (first_in (filter_map non_nil_in (answers_given l.fn.told.items))) (last_error (answers_given l.fn.told.items)) (Ok nil))
