use Rattle.std.proofs.Common.{◌≡◌, ◌++◌, map}
use Rattle.resp_core.specs.View.{view}
use Rattle.redis_combiners.specs.Answers.{answers_given, values_in}
use Rattle.redis_commands.proofs.combining.all_values.Given as goal

abbrev pub invariant-loop-answer : goal.invariant-loop-answer
invariant-loop-answer l =
    (goal.iterator-loop-answer).can_next l.answer-iterator
    × (goal.iterator-loop-answer).is_finite l.answer-iterator
    × (map view l.values.items ++ values_in (answers_given l.answer-iterator.rest.items) ≡ values_in (answers_given l.fn.told.items))
