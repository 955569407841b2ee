use Rattle.std.proofs.Common.{◌≡◌, ◌++◌, drop, map}
use Rattle.redis_session.specs.CallReplies.{fate_of}
use Rattle.redis_session.proofs.session.replying.fates_of.Given as goal

-- the rest follows
abbrev pub invariant-loop-part : goal.invariant-loop-part
invariant-loop-part l = l.fates.items ++ map (λ p. fate_of p.phase) (drop l.part-index l.parts) ≡ map (λ p. fate_of p.phase) l.parts
