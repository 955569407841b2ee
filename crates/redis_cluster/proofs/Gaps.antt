-- A command with gaps is the same command as its front.
use Rattle.std.proofs.Common.{◌≡◌, ℕ, List, [], ◌∷◌, ◌++◌, Option, None, Some, refl, ap, map, take, arith}
use Rattle.std.specs.Prelude.{option_map, unwrap_or}
use Rattle.std.proofs.lemmas.Grind.{common_steps}
use Rattle.redis_routing.specs.Command.{Arguments, command_name}
use Rattle.redis_routing.specs.NameWords.{name_words_of}
use Rattle.redis_routing.specs.Registry.{Registrations}
use Rattle.redis_routing.specs.TwoWords.{takes_second}
use Rattle.redis_routing.specs.Upper.{upper}
use Rattle.resp_core.proofs.Cases.{by_test}
use Rattle.redis_routing.specs.PresentArguments.{arguments_before_gap, present_arguments, present_arguments_after}
use Rattle.redis_routing.proofs.SelfRouting.{arguments_before_gap-map}
use Rattle.redis_cluster.specs.Front.{front, IsSameCommand}
use Rattle.redis_cluster.specs.MultiKey.{MultiKey, multi_key, part_args}

-- the front has the words of the name, and what is present after them
record IsFront (args : Arguments) : Type 0 where
  name : command_name (front args) ≡ command_name args
  words : name_words_of (front args) ≡ name_words_of args
  first : take (name_words_of args) (front args) ≡ take (name_words_of args) args
  present : present_arguments (front args) ≡ present_arguments args

-- the front of a name of so many words
abbrev front_at : ℕ → Arguments → Arguments
front_at words args = take words args ++ map Some (present_arguments_after words args)

-- of a command whose first two arguments are there
module _ (first second : List ℕ) (rest : Arguments) where
  abbrev whole : Arguments
  whole = Some first ∷ Some second ∷ rest

  abbrev kept : Arguments
  kept = Some first ∷ Some second ∷ map Some (arguments_before_gap rest)

  front_of_words : (words : ℕ) → name_words_of whole ≡ words → front_at words whole ≡ kept → take words kept ≡ take words whole → present_arguments_after words kept ≡ present_arguments_after words whole → IsFront whole
  front_of_words words count is first present = grind (arith, common_steps)

  front_of_two : IsFront whole
  front_of_two =
      let same : arguments_before_gap (map Some (arguments_before_gap rest)) ≡ arguments_before_gap rest = arguments_before_gap-map (arguments_before_gap rest) in
      by_test (takes_second (upper first))
      (λ takes. front_of_words 2 (rw takes refl) refl refl same)
      (λ alone. front_of_words 1 (rw alone refl) refl refl (ap (λ texts. second ∷ texts) same))

is_front : (args : Arguments) → IsFront args
is_front [] = record { name = refl; words = refl; first = refl; present = refl }
is_front (None ∷ rest) = record { name = refl; words = refl; first = refl; present = arguments_before_gap-map (arguments_before_gap rest) }
is_front (Some first ∷ []) = record { name = refl; words = refl; first = refl; present = refl }
is_front (Some first ∷ None ∷ rest) = record { name = refl; words = refl; first = refl; present = refl }
is_front (Some first ∷ Some second ∷ rest) = front_of_two first second rest

module _ (args : Arguments) where
  same : IsFront args
  same = is_front args

  abbrev part_found : Arguments → ℕ → Option MultiKey → Arguments
  part_found words slot found = unwrap_or (option_map (λ command. part_args words command slot) found) []

  part_same : (slot : ℕ) (command : Option MultiKey) → part_found (front args) slot command ≡ part_found args slot command
  part_same slot None = refl
  part_same slot (Some command) = grind (arith, common_steps)

  command_same : (registered : Registrations) → multi_key registered (front args) ≡ multi_key registered args
  command_same registered = grind (arith, same)

  pub same_command : IsSameCommand args (front args)
  same_command = grind (arith, command_same, part_same)
