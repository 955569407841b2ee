use Rattle.slotroute_serve.proofs.Writing.{grows, written, fits}
use Rattle.slotroute_serve.proofs.output.put.Goals as goal

pub loop-done-preserved : goal.loop-done-preserved
loop-done-preserved g c = record {
  within = fits c.loop-done.done c.in_ok-done.field-0 c.args.text.now c.loop-done.invariant.within c.in_ok-done.ensures.bound;
  so_far = grows _ (g.W.Sink.contents c.loop-done.writer) _ _ _ _ c.loop-done.invariant.so_far c.in_ok-done.ensures.bytes (written c.loop-done.done c.in_ok-done.field-0 c.args.text.now);
}
