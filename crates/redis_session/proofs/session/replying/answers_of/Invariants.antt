use Rattle.std.proofs.Common.{◌≡◌, ◌++◌, drop, map}
use Rattle.redis_session.specs.CallReplies.{answers_in}
use Rattle.redis_session.proofs.session.replying.answers_of.Given as goal

-- the rest follows
abbrev pub invariant-loop-part : goal.invariant-loop-part
invariant-loop-part l = map (λ answer. answer.items) l.answers.items ++ answers_in (drop l.part-index l.parts) ≡ answers_in l.parts
