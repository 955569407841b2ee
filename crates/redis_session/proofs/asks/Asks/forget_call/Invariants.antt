use Rattle.redis_session.specs.Asks.{KeepsOtherAsks}
use Rattle.redis_session.proofs.asks.Asks.forget_call.Given as goal

abbrev pub invariant-loop-part : goal.invariant-loop-part
invariant-loop-part l = KeepsOtherAsks l.fn.call l.fn.self l.self
