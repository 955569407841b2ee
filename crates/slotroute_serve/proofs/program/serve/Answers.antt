use Rattle.std.proofs.Common.{is_some}
use Rattle.slotroute_serve.proofs.Serving.{serves_anyhow}
use Rattle.slotroute_serve.proofs.program.serve.Goals as goal

pub returns-clause-served : goal.returns-clause-served
returns-clause-served g c =
    serves_anyhow (is_some c.args.strategy) _ _ _ _ (g.R.Read.remaining c.args.reader.now) (g.R.Read.remaining c.serve_streams.new.reader) (g.O.Write.contents c.args.out.now) (g.O.Write.contents c.serve_streams.new.out) (g.E.Write.contents c.args.err.now) (g.E.Write.contents c.serve_streams.new.err) c.serve_streams.result c.serve_streams.ensures.served
