-- How many arguments the name of a command takes.
use Rattle.std.specs.Prelude.{ℕ, List, Option, Some, if◌then◌else◌}
use Rattle.redis_routing.specs.Command.{Arguments, argument}
use Rattle.redis_routing.specs.TwoWords.{takes_second}
use Rattle.redis_routing.specs.Upper.{upper}

-- by its first two arguments: the second one is of the name where the table of two-word names has
-- the first
abbrev pub words_by : Option (List ℕ) → Option (List ℕ) → ℕ
words_by (Some first) (Some second) = if takes_second (upper first) then 2 else 1
words_by first second = 1

-- 2 where the name joins two arguments, as that of `OBJECT ENCODING key`, else 1. A name of two
-- words that is given as one argument has one.
abbrev pub name_words_of : Arguments → ℕ
name_words_of args = words_by (argument args 0) (argument args 1)
