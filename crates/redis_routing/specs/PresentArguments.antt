-- The present arguments of a command: those after its name, up to the first gap.
use Rattle.std.specs.Prelude.{ℕ, List, [], ◌∷◌, None, Some, drop}
use Rattle.redis_routing.specs.Command.{Arguments}
use Rattle.redis_routing.specs.NameWords.{name_words_of}

abbrev pub arguments_before_gap : Arguments → List (List ℕ)
arguments_before_gap [] = []
arguments_before_gap (None ∷ args) = []
arguments_before_gap (Some arg ∷ args) = arg ∷ arguments_before_gap args

-- after so many words
abbrev pub present_arguments_after : ℕ → Arguments → List (List ℕ)
present_arguments_after words args = arguments_before_gap (drop words args)

-- after the words of its name
abbrev pub present_arguments : Arguments → List (List ℕ)
present_arguments args = present_arguments_after (name_words_of args) args
