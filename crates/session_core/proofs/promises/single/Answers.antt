use Rattle.session_core.proofs.Waiting.{single}
use Rattle.session_core.proofs.promises.single.Goals as goal

pub returns : goal.returns
returns c = λ events s number call part run. single events s run number call part
