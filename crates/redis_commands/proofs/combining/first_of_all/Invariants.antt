use Rattle.std.proofs.Common.{◌≡◌}
use Rattle.std.specs.Prelude.{option_map}
use Rattle.resp_core.specs.View.{view}
use Rattle.redis_combiners.specs.Answers.{answers_given, first_in, first_error, values_in}
use Rattle.redis_commands.proofs.Running.{earlier}
use Rattle.redis_commands.proofs.combining.first_of_all.Given as goal

abbrev pub invariant-loop-answer : goal.invariant-loop-answer
invariant-loop-answer l =
    (goal.iterator-loop-answer).can_next l.answer-iterator
    × (goal.iterator-loop-answer).is_finite l.answer-iterator
    × (first_error (answers_given l.answer-iterator.rest.items) ≡ first_error (answers_given l.fn.told.items))
    × (earlier (option_map view l.first) (first_in (values_in (answers_given l.answer-iterator.rest.items))) ≡ first_in (values_in (answers_given l.fn.told.items)))
