use Rattle.std.proofs.Common.{◌≡◌, drop}
use Rattle.redis_cluster.specs.Pipeline.{first_refused}
use Rattle.redis_cluster.proofs.pipeline.refusals.first_refused.Given as goal

abbrev pub invariant-loop-command : goal.invariant-loop-command
invariant-loop-command l = first_refused (drop l.command-index l.commands) ≡ first_refused l.commands
