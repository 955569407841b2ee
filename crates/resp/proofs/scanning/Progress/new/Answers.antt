use Rattle.resp.proofs.Messages.{scanned_none}
use Rattle.resp.proofs.scanning.Progress.new.Goals as goal

pub returns-clause-right : goal.returns-clause-right
returns-clause-right c = scanned_none
