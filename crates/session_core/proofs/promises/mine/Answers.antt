use Rattle.session_core.proofs.LinkRuns.{accounted}
use Rattle.session_core.proofs.promises.mine.Goals as goal

pub returns : goal.returns
returns c = accounted
