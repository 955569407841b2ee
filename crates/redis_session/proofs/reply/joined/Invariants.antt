use Rattle.std.proofs.Common.{◌≡◌, ◌++◌, drop}
use Rattle.redis_session.specs.SplitReplies.{joined}
use Rattle.redis_session.proofs.reply.joined.Given as goal

-- the rest follows
abbrev pub invariant-loop-answer : goal.invariant-loop-answer
invariant-loop-answer l = l.bytes.items ++ joined (drop l.answer-index l.answers) ≡ joined l.answers
