-- A part of a command as a command of its own, by the places of its arguments.
use Rattle.std.specs.Prelude.{ℕ, ◌+◌, ◌-◌, ◌^◌, List, [], ◌∷◌, ◌++◌, Option, None, Some, length, map, min}
use Rattle.std.specs.List.{range_with_len}
use Rattle.cluster_slots.specs.Lists.{all_some}
use Rattle.redis_routing.specs.Command.{Arguments, argument}

-- the arguments of a name of so many words and those at these places after it, if they are all
-- there
abbrev pub sub_command_after : ℕ → Arguments → List ℕ → Option (List (List ℕ))
sub_command_after words args places =
    all_some (map (λ place. argument args place) (range_with_len 0 words)
    ++ map (λ place. argument args (place + words)) places)

-- the first argument and those at these places after it, if they are all there
abbrev pub sub_command : Arguments → List ℕ → Option (List (List ℕ))
sub_command args places = sub_command_after 1 args places

-- how many bytes an argument has, if it is there
abbrev pub text_len : Option (List ℕ) → ℕ
text_len None = 0
text_len (Some text) = length text

-- how many bytes these arguments have together
abbrev pub bytes_in : Arguments → ℕ
bytes_in [] = 0
bytes_in (arg ∷ args) = text_len arg + bytes_in args

-- a number as far as a `usize` counts
abbrev pub saturated : ℕ → ℕ
saturated n = min n (2 ^ 64 - 1)
