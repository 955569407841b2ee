use Rattle.std.proofs.Common.{◌≡◌, ◌++◌, drop}
use Rattle.std.specs.List.{concat}
use Rattle.redis_session.specs.CallReplies.{answers_in}
use Rattle.redis_session.proofs.session.replying.joined_answers.Given as goal

-- the rest follows
abbrev pub invariant-loop-part : goal.invariant-loop-part
invariant-loop-part l = l.bytes.items ++ concat (answers_in (drop l.part-index l.parts)) ≡ concat (answers_in l.parts)
