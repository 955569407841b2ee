use Rattle.session_core.proofs.Turns.{asked_no_more, finished_no_more}
use Rattle.session_core.proofs.promises.given_up.Goals as goal

pub returns-clause-asks : goal.returns-clause-asks
returns-clause-asks c = λ before mid more s event call part number requests run ends. asked_no_more before mid more s call part number event requests run ends

pub returns-clause-finishes : goal.returns-clause-finishes
returns-clause-finishes c = λ before mid more s event call state run ends. finished_no_more before mid more s call event state run ends
