use Rattle.session_core.specs.History.{AsQueue}
use Rattle.session_core.proofs.Runs.{split_run}
use Rattle.session_core.proofs.Outcomes.{was_passed}
use Rattle.session_core.proofs.promises.ended.Goals as goal

pub returns-clause-overtaken : goal.returns-clause-overtaken
returns-clause-overtaken c = λ before more s seat run began. was_passed before more s seat run began

pub returns-clause-given_up : goal.returns-clause-given_up
returns-clause-given_up c = λ before more s call part run. (split_run AsQueue before _ _ s run).2.0.3
