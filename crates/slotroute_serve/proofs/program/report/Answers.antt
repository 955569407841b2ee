use Rattle.std.proofs.Common.{refl}
use Rattle.slotroute_serve.proofs.Serving.{reported_memory}
use Rattle.slotroute_serve.proofs.program.report.Goals as goal

pub returns-in-Err : goal.returns-in-Err
returns-in-Err g c =
    reported_memory _ (g.E.Sink.contents c.args.err.now) (g.E.Sink.contents c.emit-in-Err.new.writer) c.args.fault.now _ c.emit-in-Err.result c.in-Err.ensures.memory refl c.emit-in-Err.ensures.ok c.emit-in-Err.ensures.begun c.emit-in-Err.ensures.failed
