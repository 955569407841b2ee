use Rattle.session_core.proofs.Turns.{in_turn, ended_first}
use Rattle.session_core.proofs.promises.in_turn.Goals as goal

pub returns-clause-order : goal.returns-clause-order
returns-clause-order c = λ before mid more s first second a b run. in_turn before mid more s first second a b run

pub returns-clause-ended : goal.returns-clause-ended
returns-clause-ended c = λ before more s first second parts b run began lt. ended_first before more s first second parts b run began lt
