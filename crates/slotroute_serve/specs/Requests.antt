-- What the words ask for, as the code holds it.
use Rattle.std.specs.Prelude.{◌≡◌, ◌≢◌, ℕ, List, [], map, string_bytes}
use Rattle.redis_routing.specs.Registry.{Registrations}
use Rattle.slotroute_serve.specs.Faults.{WhyNoSplit}
use Rattle.slotroute_serve.specs.Output.{node_words, split_words, IsRunWords}
use Rattle.slotroute_serve.specs.declared.fault.AnswerFault.{AnswerFault}
use Rattle.slotroute_serve.specs.declared.fault.AnswerFault.TheVariants.{Memory}
use Rattle.slotroute_serve.specs.declared.request.Question.{Question}
use Rattle.slotroute_serve.specs.declared.request.Question.TheVariants.{Node, Split}
use Rattle.slotroute_serve.specs.declared.request.Request.{Request}
use Rattle.slotroute_serve.specs.declared.request.Request.TheVariants.{Answer, Run}

-- the words ask the question
abbrev pub Asks : List (List ℕ) → Question → Type 0
Asks words (Node key) = words ≡ node_words key.now
Asks words (Split command) =
    (words ≡ split_words (map string_bytes command.now)) × (map string_bytes command.now ≢ [])

-- the words ask for the request
abbrev pub AsksFor : List (List ℕ) → Request → Type 0
AsksFor words (Answer question) = Asks words question
AsksFor words (Run direction) = IsRunWords direction words

-- why a question has no answer on a map, if these names are registered
abbrev pub WhyNoAnswer : Registrations → Question → AnswerFault → Type 0
WhyNoAnswer registered (Node key) fault = fault ≡ Memory
WhyNoAnswer registered (Split command) fault =
    WhyNoSplit registered (map string_bytes command.now) fault
