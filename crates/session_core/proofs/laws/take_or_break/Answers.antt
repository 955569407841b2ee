use Rattle.session_core.proofs.LinkRuns.{take_or_break}
use Rattle.session_core.proofs.laws.take_or_break.Goals as goal

pub returns : goal.returns
returns c = take_or_break
