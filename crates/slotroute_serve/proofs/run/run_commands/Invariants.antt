use Rattle.std.proofs.Common.{◌≡◌, List, ℕ, is_some}
use Rattle.std.specs.Io.KnownBytes.{Appends}
use Rattle.memory_nodes.specs.Nodes.{registered_in, keyspace_in}
use Rattle.slotroute_serve.specs.Commands.{RefuseNothing}
use Rattle.slotroute_serve.proofs.Running.{RunsOn}
use Rattle.slotroute_serve.proofs.run.run_commands.Given as goal

-- the lines so far were run, and what they print was written
abbrev pub invariant-loop-number : goal.invariant-loop-number
invariant-loop-number g l = record {
  registered : registered_in l.nodes ≡ l.fn.registry;
  willing : RefuseNothing l.nodes;
  text : List ℕ;
  written : Appends (g.O.Sink.contents l.fn.out) (g.O.Sink.contents l.out) text;
  on : RunsOn (is_some l.strategy) l.direction l.fn.registry l.slot_map (g.R.Source.remaining l.fn.reader) (g.R.Source.remaining l.reader) l.first l.number (keyspace_in l.nodes) text;
}
