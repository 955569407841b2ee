-- What a target is sent.
use Rattle.std.specs.Prelude.{map, Some}
use Rattle.redis_routing.specs.Command.{Arguments}
use Rattle.redis_commands.specs.declared.part.CommandPart.{CommandPart}
use Rattle.redis_commands.specs.declared.part.CommandPart.TheVariants.{Whole, Split}

-- its arguments, by those of the whole command
abbrev pub arguments_sent : {R : Type 0} → (R → Arguments) → CommandPart R → Arguments
arguments_sent arguments (Whole command) = arguments command.now
arguments_sent arguments (Split part) = map Some part.now
