-- A command with gaps is split and sent as its front.
use Rattle.std.specs.Prelude.{◌≡◌, ℕ, ◌++◌, Some, map, take}
use Rattle.redis_routing.specs.Command.{Arguments}
use Rattle.redis_routing.specs.NameWords.{name_words_of}
use Rattle.redis_routing.specs.PresentArguments.{present_arguments}
use Rattle.redis_routing.specs.Registry.{Registrations}
use Rattle.redis_cluster.specs.MultiKey.{multi_key, part_by_slot}

-- the arguments of the name, and those after it up to the first gap
abbrev pub front : Arguments → Arguments
front args = take (name_words_of args) args ++ map Some (present_arguments args)

-- As multi-key commands the two are the same, whatever is registered: the same tuples, so the same
-- routes, and the same parts. Or neither is one.
pub record IsSameCommand (args other : Arguments) : Type 0 where
  pub command : (registered : Registrations) → multi_key registered other ≡ multi_key registered args
  pub part : (registered : Registrations) (slot : ℕ)
      → part_by_slot registered other slot ≡ part_by_slot registered args slot
