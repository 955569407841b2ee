use Rattle.std.proofs.Common.{◌≡◌, drop}
use Rattle.redis_session.specs.SplitReplies.{first_error}
use Rattle.redis_session.proofs.reply.first_error.Given as goal

-- no error stands before
abbrev pub invariant-loop-answer : goal.invariant-loop-answer
invariant-loop-answer l = first_error (drop l.answer-index l.answers) ≡ first_error l.answers
