-- The first words of names that have two words.
use Rattle.std.specs.Prelude.{ℕ, List, [], ◌∷◌, Bool, codes}
use Rattle.redis_routing.specs.Lookup.{has_name}

-- the words that a second one belongs to
abbrev pub two_word_names : List (List ℕ)
two_word_names =
    codes "XGROUP" ∷ codes "OBJECT" ∷ codes "SLOWLOG" ∷ codes "FUNCTION" ∷ codes "MODULE" ∷
    codes "COMMAND" ∷ codes "PUBSUB" ∷ codes "CONFIG" ∷ codes "MEMORY" ∷ codes "XINFO" ∷
    codes "CLIENT" ∷ codes "ACL" ∷ codes "SCRIPT" ∷ codes "CLUSTER" ∷ codes "LATENCY" ∷ []

-- whether a second word belongs to the name
unfoldable pub takes_second : List ℕ → Bool
takes_second name = has_name two_word_names name
