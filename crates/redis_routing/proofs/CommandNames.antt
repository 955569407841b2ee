-- The name of a command by its first two arguments, and the arguments that it takes.
use Rattle.std.proofs.Common.{◌≡◌, ℕ, ◌<◌, List, [], ◌∷◌, ◌++◌, Option, Some, None, is_some, true, false, length, take, refl, arith}
use Rattle.std.proofs.lemmas.Grind.{common_steps}
use Rattle.redis_routing.specs.Upper.{upper}
use Rattle.redis_routing.specs.TwoWords.{takes_second}
use Rattle.redis_routing.specs.NameWords.{name_words_of, words_by}
use Rattle.redis_routing.specs.PresentArguments.{present_arguments}
use Rattle.redis_routing.specs.Command.{Arguments, HasWords, command_name}
use Rattle.resp_core.proofs.Cases.{by_test}

-- a command with a name has the words of it
pub has_words : (args : Arguments) (name : List ℕ) → Some name ≡ command_name args → HasWords (name_words_of args) args
has_words [] name named = absurd (cc named)
has_words (None ∷ rest) name named = absurd (cc named)
has_words (Some first ∷ []) name named = record { texts = first ∷ []; all = refl; taken = refl }
has_words (Some first ∷ None ∷ rest) name named = record { texts = first ∷ []; all = refl; taken = refl }
has_words (Some first ∷ Some second ∷ rest) name named =
    by_test (takes_second (upper first))
    (λ takes. rw takes (record { texts = first ∷ second ∷ []; all = refl; taken = refl }))
    (λ alone. rw alone (record { texts = first ∷ []; all = refl; taken = refl }))

pub named_has_words : (args : Arguments) → is_some (command_name args) ≡ true → HasWords (name_words_of args) args
named_has_words [] named = absurd (cc named)
named_has_words (None ∷ rest) named = absurd (cc named)
named_has_words (Some first ∷ rest) named = has_words (Some first ∷ rest) _ refl

-- how many words a first one makes that takes no second one
pub words_alone : (first : List ℕ) (second : Option (List ℕ)) → takes_second (upper first) ≡ false → words_by (Some first) second ≡ 1
words_alone first None alone = refl
words_alone first (Some second) alone = rw alone refl

-- where arguments follow the words of a name, these words have the name again, whatever follows, and are as many
pub words_again : (args : Arguments) → 0 < length (present_arguments args) → (other : Arguments)
    → (command_name (take (name_words_of args) args ++ other) ≡ command_name args) × (name_words_of (take (name_words_of args) args ++ other) ≡ name_words_of args)
words_again args h1 other = grind (arith, common_steps)
