use Rattle.session_core.proofs.Courses.{tries}
use Rattle.session_core.proofs.promises.once.Goals as goal

pub returns : goal.returns
returns c = λ events s seat left run began is. tries seat left events s run began is
