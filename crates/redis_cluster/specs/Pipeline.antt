-- A pipeline as the list of its commands, and why it is refused before anything is sent.
use Rattle.std.specs.Prelude.{◌≡◌, ◌⊎◌, ℕ, List, [], ◌∷◌, ◌++◌, Bool, true, false, if◌then◌else◌, ◌==◌, Option, None, Some, map, length, codes, slice_get, slice_index_or}
use Rattle.std.specs.Str.{trim}
use Rattle.std.specs.Str.Lossy.{utf8_valid_len}
use Rattle.resp_core.specs.ErrorParts.{ErrorParts, out_of_memory}
use Rattle.resp_core.specs.declared.error.ErrorKind.TheVariants.{Client}
use Rattle.redis_routing.specs.Upper.{upper}
use Rattle.redis_cluster.specs.Refusals.{is_refused}

-- a command's arguments, the first of which is its name
abbrev pub CommandWords : Type 0
CommandWords = List (List ℕ)

-- the commands in the order in which they were added, each beside whether its reply is ignored
abbrev pub MarkedCommands : Type 0
MarkedCommands = List (CommandWords × Bool)

-- the commands without the marks
abbrev pub commands_of : MarkedCommands → List CommandWords
commands_of pipeline = map (λ c. c.0) pipeline

-- whether the command at a place is marked; past the end none is
abbrev pub is_ignored : MarkedCommands → ℕ → Bool
is_ignored pipeline index = slice_index_or (map (λ c. c.1) pipeline) index false

-- a command of this name alone, whose reply is not ignored
abbrev pub command_named : List ℕ → CommandWords × Bool
command_named name = (name ∷ [], false)

-- the list with its last item changed, if it has one
abbrev pub on_last : {A : Type 0} → (A → A) → List A → List A
on_last change [] = []
on_last change (x ∷ []) = change x ∷ []
on_last change (x ∷ (y ∷ ys)) = x ∷ on_last change (y ∷ ys)

-- the last command has one more argument
abbrev pub with_argument : MarkedCommands → List ℕ → MarkedCommands
with_argument pipeline arg = on_last (λ c. (c.0 ++ arg ∷ [], c.1)) pipeline

-- the reply to the last command is ignored
abbrev pub with_last_ignored : MarkedCommands → MarkedCommands
with_last_ignored pipeline = on_last (λ c. (c.0, true)) pipeline

-- there is no command to change
abbrev pub no_command : ErrorParts
no_command = record { kind = Client; desc = codes "no command in the pipeline"; detail = None }

-- why an argument is refused: there is no command yet, or memory ran out
abbrev pub IsArgumentRefusal : MarkedCommands → ErrorParts → Type 0
IsArgumentRefusal [] fault = fault ≡ no_command
IsArgumentRefusal (c ∷ cs) fault = fault ≡ out_of_memory

-- the bytes, if they are UTF-8, else no text
abbrev pub utf8_text : List ℕ → List ℕ
utf8_text bytes = if utf8_valid_len bytes == length bytes then bytes else []

-- the name that a first argument gives: without the white space round it, in ASCII upper case
abbrev pub name_by_first : Option (List ℕ) → List ℕ
name_by_first None = []
name_by_first (Some first) = upper (trim (utf8_text first))

-- the name by which a pipeline looks at a command; further arguments do not count
abbrev pub name_of : CommandWords → List ℕ
name_of command = name_by_first (slice_get command 0)

-- the name of the first command that a pipeline refuses
abbrev pub first_refused : List CommandWords → Option (List ℕ)
first_refused [] = None
first_refused (c ∷ cs) = if is_refused (name_of c) then Some (name_of c) else first_refused cs

-- which command cannot be executed
abbrev pub detail_of : List ℕ → List ℕ
detail_of name = codes "Command '" ++ name ++ codes "' can't be executed in a cluster pipeline."

-- a command of this name cannot be routed as a part of a pipeline
abbrev pub unroutable : List ℕ → ErrorParts
unroutable name =
    record {
      kind = Client;
      desc = codes "This command cannot be safely routed in cluster mode";
      detail = Some (detail_of name);
    }

-- there is nothing to send
abbrev pub empty_command : ErrorParts
empty_command = record { kind = Client; desc = codes "empty command"; detail = None }

-- why a pipeline is refused: for its first refused name, or out of memory in telling of that
-- name; where no name is refused, because it has no command
abbrev pub IsRefusalBy : Option (List ℕ) → MarkedCommands → ErrorParts → Type 0
IsRefusalBy (Some name) pipeline fault = (fault ≡ unroutable name) ⊎ (fault ≡ out_of_memory)
IsRefusalBy None pipeline fault = (pipeline ≡ []) × (fault ≡ empty_command)

abbrev pub IsRefusal : MarkedCommands → ErrorParts → Type 0
IsRefusal pipeline fault = IsRefusalBy (first_refused (commands_of pipeline)) pipeline fault
