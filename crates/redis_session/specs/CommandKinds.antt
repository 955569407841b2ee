-- The kind of a command that a shared link takes.
use Rattle.std.specs.Prelude.{ℕ, List, Option, None, Some, option_and_then, option_map}
use Rattle.redis_routing.specs.Command.{Arguments, argument, command_name}
use Rattle.redis_routing.specs.Lookup.{lookup_name}
use Rattle.redis_routing.specs.Registry.{Registrations}
use Rattle.redis_routing.specs.Upper.{upper}
use Rattle.redis_session.specs.Added.{Added}
use Rattle.redis_session.specs.SharedNames.{kind_of_name}
use Rattle.redis_session.specs.declared.kind.CommandKind.{CommandKind}
use Rattle.redis_session.specs.declared.kind.CommandKind.TheVariants.{Script}

abbrev pub kind_or : Option CommandKind → Option CommandKind → Option CommandKind
kind_or None other = other
kind_or (Some kind) other = Some kind

-- by its first word alone: `OBJECT ENCODING key` is taken as `OBJECT` is
abbrev pub kind_by_first_word : Arguments → Option CommandKind
kind_by_first_word args = option_and_then (λ first. kind_of_name (upper first)) (argument args 0)

-- by its name: as the table has it, or as the shell added or registered it
abbrev pub kind_by_shell : Registrations → Added → List ℕ → Option CommandKind
kind_by_shell registry added name =
    kind_or (kind_of_name name)
    (kind_or (lookup_name added name) (option_map (λ row. Script) (lookup_name registry name)))

-- `object encoding a` is by its first word, `script load x` by its name of two words, and `FT.SEARCH a b`
-- only if the shell added or registered the name.
abbrev pub kind_of_command : Registrations → Added → Arguments → Option CommandKind
kind_of_command registry added args =
    kind_or (kind_by_first_word args) (option_and_then (kind_by_shell registry added) (command_name args))
