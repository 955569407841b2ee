use Rattle.session_core.proofs.Answering.{was_taken, was_asked}
use Rattle.session_core.proofs.promises.answered.Goals as goal

pub returns-clause-taken : goal.returns-clause-taken
returns-clause-taken c = λ events s seat p reply run began at is. was_taken seat reply events s p run began at is

pub returns-clause-asked : goal.returns-clause-asked
returns-clause-asked c = λ events s seat request run began asked. was_asked seat request events s run began asked
