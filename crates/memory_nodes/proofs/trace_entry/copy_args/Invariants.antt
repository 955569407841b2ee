use Rattle.std.proofs.Common.{◌≡◌, ◌++◌}
use Rattle.memory_nodes.specs.Parts.{words}
use Rattle.memory_nodes.proofs.trace_entry.copy_args.Given as goal

-- what was copied, and what is left to copy, is the command
abbrev pub invariant-loop-arg : goal.invariant-loop-arg
invariant-loop-arg l = words l.args.items ++ l.arg-iterator ≡ l.cmd
