use Rattle.std.proofs.Common.{◌≤◌, ◌-◌, length, take}
use Rattle.std.specs.Io.KnownBytes.{Appends}
use Rattle.slotroute_serve.proofs.output.put.Given as goal

-- the first `done` bytes of the text were written
abbrev pub invariant-loop-done : goal.invariant-loop-done
invariant-loop-done g l = record { within : l.done ≤ length l.text; so_far : Appends (g.W.Sink.contents l.fn.writer) (g.W.Sink.contents l.writer) (take l.done l.text) }

abbrev pub decreases-loop-done : goal.decreases-loop-done
decreases-loop-done g l = length l.text - l.done
