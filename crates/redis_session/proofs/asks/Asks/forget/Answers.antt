use Rattle.std.proofs.Common.{None, subst}
use Rattle.redis_session.specs.Asks.{Asks, SetsAsk}
use Rattle.redis_session.proofs.SentParts.{sets_ask}
use Rattle.redis_session.proofs.asks.Asks.forget.Goals as goal

pub returns : goal.returns
returns c = let seat = c.args.seat in
    subst (λ (asks : Asks). SetsAsk seat.call seat.part None asks c.remove.new.self.entries) c.self.view_is
    (sets_ask seat.call seat.part None c.self.inside.nodes c.remove.new.self c.remove.ensures.updates)
