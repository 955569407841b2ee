use Rattle.std.proofs.Common.{Some, subst}
use Rattle.redis_session.specs.Asks.{Asks, SetsAsk}
use Rattle.redis_session.proofs.SentParts.{sets_ask}
use Rattle.redis_session.proofs.asks.Asks.add.Goals as goal

pub returns-clause-sent : goal.returns-clause-sent
returns-clause-sent c = let seat = c.args.seat in
    subst (λ (asks : Asks). SetsAsk seat.call seat.part (Some c.args.node) asks c.insert.new.self.entries) c.self.view_is
    (sets_ask seat.call seat.part (Some c.args.node) c.self.inside.nodes c.insert.new.self c.in_ok-insert.ensures.updates)
