-- What a contract sees of a plan.
use Rattle.std.specs.Prelude.{◌≡◌, ◌<◌, List, Option, Result, length}
use Rattle.resp_core.specs.ErrorParts.{ErrorParts}
use Rattle.resp_core.specs.declared.value.Value.{Value}
use Rattle.cluster_slots.specs.Address.{Address}
use Rattle.redis_routing.specs.Command.{Arguments}
use Rattle.redis_commands.specs.Rule.{ReplyRule}

-- how the answers make one reply, and for each target its address, what it is sent, and what it
-- answered, if the plan has that
pub record PlannedCommand : Type 0 where
  pub rule : ReplyRule
  pub targets : List Address
  pub sent : List Arguments
  pub answers : List (Option (Result Value ErrorParts))

-- there is a target, and for each one what it is sent and room for its answer
pub record IsPlanned (plan : PlannedCommand) : Type 0 where
  pub some : 0 < length plan.targets
  pub sent : length plan.sent ≡ length plan.targets
  pub answers : length plan.answers ≡ length plan.targets
