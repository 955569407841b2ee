use Rattle.std.proofs.Common.{is_some}
use Rattle.slotroute_serve.proofs.Serving.{served_answer, served_fault, served_steadily}
use Rattle.slotroute_serve.proofs.program.serve_streams.Goals as goal

pub returns-in-Ok-clause-served : goal.returns-in-Ok-clause-served
returns-in-Ok-clause-served g c =
    served_answer (is_some c.args.strategy) _ _ _ _ (g.R.Source.remaining c.args.reader.now) (g.R.Source.remaining c.run.new.reader) (g.O.Sink.contents c.args.out.now) (g.O.Sink.contents c.run.new.out) (g.E.Sink.contents c.args.err.now) c.in-Ok.status c.in-Ok.ensures.answer

pub returns-in-Ok-clause-steady : goal.returns-in-Ok-clause-steady
returns-in-Ok-clause-steady g c =
    served_steadily (is_some c.args.strategy) _ _ _ _ (g.R.Source.remaining c.args.reader.now) (g.R.Source.remaining c.run.new.reader) (g.O.Sink.contents c.args.out.now) (g.O.Sink.contents c.run.new.out) (g.E.Sink.contents c.args.err.now) (g.E.Sink.contents c.args.err.now) c.in-Ok.status
    (returns-in-Ok-clause-served g c)

pub returns-in-Err-clause-served : goal.returns-in-Err-clause-served
returns-in-Err-clause-served g c =
    served_fault (is_some c.args.strategy) _ _ _ _ (g.R.Source.remaining c.args.reader.now) (g.R.Source.remaining c.run.new.reader) (g.O.Sink.contents c.args.out.now) (g.O.Sink.contents c.run.new.out) (g.E.Sink.contents c.args.err.now) (g.E.Sink.contents c.report.new.err) c.in-Err.fault
    c.in-Err.ensures.answer c.in-Err.ensures.cause c.report.ensures

pub returns-in-Err-clause-steady : goal.returns-in-Err-clause-steady
returns-in-Err-clause-steady g c =
    served_steadily (is_some c.args.strategy) _ _ _ _ (g.R.Source.remaining c.args.reader.now) (g.R.Source.remaining c.run.new.reader) (g.O.Sink.contents c.args.out.now) (g.O.Sink.contents c.run.new.out) (g.E.Sink.contents c.args.err.now) (g.E.Sink.contents c.report.new.err) 2
    (returns-in-Err-clause-served g c)
