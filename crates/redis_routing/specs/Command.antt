-- A command as a list of arguments of which some are gaps, and its name.
use Rattle.std.specs.Prelude.{◌≡◌, ℕ, List, [], ◌∷◌, ◌++◌, Bool, false, Option, None, Some, length, map, option_map, take, if◌then◌else◌, slice_index_or}
use Rattle.std.specs.Char.{to_ascii_lowercase}
use Rattle.std.specs.Str.{bytes_eq}
use Rattle.redis_routing.specs.Upper.{upper}
use Rattle.redis_routing.specs.TwoWords.{takes_second}

-- the arguments in order, each bytes or a gap
abbrev pub Arguments : Type 0
Arguments = List (Option (List ℕ))

-- the argument at a place, unless it is a gap or not there
abbrev pub argument : Arguments → ℕ → Option (List ℕ)
argument args place = slice_index_or args place None

-- A name by its words in upper case. The second one belongs to it if the table of two-word names has
-- the first: `CLIENT KILL` is a name, and `GET A` is not.
abbrev pub name_by : List ℕ → Option (List ℕ) → List ℕ
name_by first None = first
name_by first (Some second) = if takes_second first then first ++ 32 ∷ second else first

-- the name of a command by its first two arguments, unless the first is a gap or not there
abbrev pub command_name : Arguments → Option (List ℕ)
command_name args =
    option_map (λ first. name_by (upper first) (option_map upper (argument args 1))) (argument args 0)

-- The first arguments, so many, are there: none of them is a gap.
pub record HasWords (words : ℕ) (args : Arguments) : Type 0 where
  pub texts : List (List ℕ)
  pub all : length texts ≡ words
  pub taken : map Some texts ≡ take words args

-- the same command, but for the ASCII case of its first word
abbrev pub IsRespelt : Arguments → Arguments → Type 0
IsRespelt (Some first ∷ rest) other =
    (spelt : List ℕ) × (upper spelt ≡ upper first) × (other ≡ Some spelt ∷ rest)
IsRespelt args other = other ≡ args

-- whether the argument is this word, in any ASCII case
abbrev pub is_word : List ℕ → Option (List ℕ) → Bool
is_word word None = false
is_word word (Some bytes) = bytes_eq (map to_ascii_lowercase bytes) (map to_ascii_lowercase word)

-- the arguments that the items of a reply are, where it is an array: those that are not bulk
-- strings are gaps
abbrev pub arguments_in : Option Arguments → Arguments
arguments_in None = []
arguments_in (Some args) = args
