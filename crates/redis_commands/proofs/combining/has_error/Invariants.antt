use Rattle.std.proofs.Common.{◌≡◌, drop}
use Rattle.redis_combiners.specs.Answers.{answers_given, first_error}
use Rattle.redis_commands.proofs.combining.has_error.Given as goal

abbrev pub invariant-loop-answer : goal.invariant-loop-answer
invariant-loop-answer l =
    first_error (answers_given (drop l.answer-index l.told)) ≡ first_error (answers_given l.told)
