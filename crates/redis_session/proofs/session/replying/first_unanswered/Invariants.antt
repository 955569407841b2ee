use Rattle.std.proofs.Common.{◌≡◌, drop}
use Rattle.redis_session.specs.CallReplies.{first_unanswered}
use Rattle.redis_session.proofs.session.replying.first_unanswered.Given as goal

-- none stands before
abbrev pub invariant-loop-part : goal.invariant-loop-part
invariant-loop-part l = first_unanswered (drop l.part-index l.parts) ≡ first_unanswered l.parts
