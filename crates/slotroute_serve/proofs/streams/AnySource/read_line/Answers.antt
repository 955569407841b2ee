use Rattle.slotroute_serve.proofs.Leaving.{stopped}
use Rattle.slotroute_serve.proofs.streams.AnySource.read_line.Goals as goal

pub returns-clause-stops : goal.returns-clause-stops
returns-clause-stops g c =
    stopped c.read_until.result (g.R.Read.remaining c.args.self.now) (g.R.Read.remaining c.read_until.new.self) _ c.read_until.ensures.none_lost c.read_until.ensures.stops
