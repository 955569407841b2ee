-- What the targets of a command answered.
use Rattle.std.specs.Prelude.{List, [], ◌∷◌, Option, Some, None, Result, Ok, Err, codes, filter_map, map, option_map}
use Rattle.std.specs.List.{last_or}
use Rattle.std.specs.Result.{result_err, result_ok}
use Rattle.resp_core.specs.Answer.{Answer, answer_of}
use Rattle.resp_core.specs.ErrorParts.{ErrorParts}
use Rattle.resp_core.specs.Reply.{Reply, nil}
use Rattle.resp_core.specs.declared.error.ErrorKind.TheVariants.{Client}
use Rattle.resp_core.specs.declared.value.Value.{Value}

-- the answers of those that have answered
abbrev pub answers_given : List (Option (Result Value ErrorParts)) → List Answer
answers_given told = filter_map (option_map answer_of) told

-- each target answered a value, and these are they
abbrev pub values_told : List Value → List (Option (Result Value ErrorParts))
values_told values = map (λ value. Some (Ok value)) values

-- the error if one of them is missing
abbrev pub missing_answer : ErrorParts
missing_answer = record { kind = Client; desc = codes "a target has not answered"; detail = None }

-- the value, unless it is nil
abbrev pub unless_nil : Reply → Option Reply
unless_nil nil = None
unless_nil value = Some value

abbrev pub non_nil_in : Answer → Option Reply
non_nil_in (Ok value) = unless_nil value
non_nil_in (Err error) = None

abbrev pub first_in : {X : Type 0} → List X → Option X
first_in [] = None
first_in (x ∷ xs) = Some x

abbrev pub values_in : List Answer → List Reply
values_in answers = filter_map result_ok answers

abbrev pub first_error : List Answer → Option ErrorParts
first_error answers = first_in (filter_map result_err answers)

abbrev pub last_error : List Answer → Option ErrorParts
last_error answers = last_or None (filter_map result_err answers)
