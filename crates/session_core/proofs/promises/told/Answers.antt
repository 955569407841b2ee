use Rattle.session_core.specs.History.{AsQueue}
use Rattle.session_core.proofs.Runs.{split_run}
use Rattle.session_core.proofs.Outcomes.{stands_told, reply_told, nothing_told}
use Rattle.session_core.proofs.promises.told.Goals as goal

pub returns-clause-none_waits : goal.returns-clause-none_waits
returns-clause-none_waits c = λ before more s call state run. (split_run AsQueue before _ _ s run).2.0.none_waits

pub returns-clause-parts : goal.returns-clause-parts
returns-clause-parts c = λ before more s seat state run began. let t = stands_told before more s seat state run began in (t.3.phase, t.4)

pub returns-clause-answered : goal.returns-clause-answered
returns-clause-answered c = λ before more s seat state p reply run began is answer. reply_told before more s seat state p reply run began is answer

pub returns-clause-nothing_done : goal.returns-clause-nothing_done
returns-clause-nothing_done c = λ before more s seat state run began nothing. nothing_told before more s seat state run began nothing
