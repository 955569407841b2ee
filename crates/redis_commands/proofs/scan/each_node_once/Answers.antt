-- Both are what following the cursors gives.
use Rattle.redis_commands.proofs.Cursors.{stands, ends}
use Rattle.redis_commands.proofs.scan.each_node_once.Goals as goal

pub returns-clause-goes_on : goal.returns-clause-goes_on
returns-clause-goes_on c = stands

pub returns-clause-ends : goal.returns-clause-ends
returns-clause-ends c = ends
