use Rattle.std.proofs.Common.{is_some}
use Rattle.slotroute_serve.proofs.Ending.{stops_as, not_begun}
use Rattle.slotroute_serve.proofs.program.run_told.Goals as goal

pub returns-in_err-tell-clause-run : goal.returns-in_err-tell-clause-run
returns-in_err-tell-clause-run g c =
    stops_as (is_some c.args.strategy) c.args.direction.now c.args.registry c.args.slot_map.now c.args.first (g.R.Source.remaining c.args.reader.now) (g.R.Source.remaining c.args.reader.now) (g.O.Sink.contents c.args.out.now) (g.O.Sink.contents c.args.out.now) _ c.from_residual.result
    (not_begun (is_some c.args.strategy) c.args.direction.now c.args.registry c.args.slot_map.now c.args.first (g.R.Source.remaining c.args.reader.now) (g.O.Sink.contents c.args.out.now)) c.from_residual.ensures.1
