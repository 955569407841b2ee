-- What is still to come of some answers, after the last error so far.
use Rattle.std.proofs.Common.{List, Option, Some, None}
use Rattle.std.specs.Prelude.{filter_map}
use Rattle.std.specs.List.{last_or}
use Rattle.std.specs.Result.{result_err}
use Rattle.resp_core.specs.Answer.{Answer}
use Rattle.resp_core.specs.ErrorParts.{ErrorParts}
use Rattle.resp_core.specs.Reply.{Reply}
use Rattle.redis_combiners.specs.Answers.{first_in}
use Rattle.redis_commands.specs.Policy.{Combined, reply_or}

-- what is made of the answers to come
abbrev pub to_come : (Answer → Option Reply) → Option ErrorParts → List Answer → Combined → Combined
to_come pick last answers otherwise =
    reply_or (first_in (filter_map pick answers)) (last_or last (filter_map result_err answers)) otherwise

-- the earlier of two, if there is one
abbrev pub earlier : {X : Type 0} → Option X → Option X → Option X
earlier None other = other
earlier (Some x) other = Some x
