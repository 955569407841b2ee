use Rattle.std.specs.Io.KnownBytes.{Keeps}
use Rattle.slotroute_serve.proofs.output.write_retrying.Given as goal

-- the calls so far wrote nothing
abbrev pub invariant-loop : goal.invariant-loop
invariant-loop g l = Keeps (g.W.Sink.contents l.fn.writer) (g.W.Sink.contents l.writer)
