-- What a server answered to a command.
use Rattle.std.specs.Prelude.{Result, Ok, Err}
use Rattle.resp_core.specs.ErrorParts.{ErrorParts}
use Rattle.resp_core.specs.Reply.{Reply}
use Rattle.resp_core.specs.View.{view}
use Rattle.resp_core.specs.declared.value.Value.{Value}

-- a value, or an error
abbrev pub Answer : Type 0
Answer = Result Reply ErrorParts

abbrev pub answer_of : Result Value ErrorParts → Answer
answer_of (Ok value) = Ok (view value)
answer_of (Err error) = Err error
