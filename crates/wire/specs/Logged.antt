-- What a log of sends says.
use Rattle.std.specs.Prelude.{ℕ, List, [], Result, Ok, Err, get_or}
use Rattle.resp_core.specs.ErrorParts.{out_of_memory}
use Rattle.resp_core.specs.Reply.{Reply}
use Rattle.resp_core.specs.View.{view}
use Rattle.resp_core.specs.declared.value.Value.{Value}
use Rattle.cluster_slots.specs.Address.{Address}
use Rattle.redis_cluster.specs.declared.nodes.SendError.{SendError}
use Rattle.redis_cluster.specs.declared.nodes.SendError.TheVariants.{Refused, Redirected, Lost, Memory}
use Rattle.wire.specs.Said.{SendOutcome, answer, refusal, redirection, loss, said}
use Rattle.wire.specs.Commands.{SaidCommand}

-- running out of memory, before which nothing was sent, is not logged
abbrev pub outcome_by : Result Value SendError → SendOutcome Reply
outcome_by (Ok value) = answer (view value)
outcome_by (Err (Refused error)) = refusal error
outcome_by (Err (Redirected redirect)) = redirection redirect
outcome_by (Err (Lost error)) = loss error
outcome_by (Err Memory) = refusal out_of_memory

-- a command is logged as a list of one
abbrev pub command_logged : Address × List (List (List ℕ)) × Result Value SendError → SaidCommand
command_logged s = said s.0 (get_or s.1 0 []) (outcome_by s.2)
