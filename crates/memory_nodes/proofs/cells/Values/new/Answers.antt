use Rattle.memory_nodes.proofs.Keyspaces.{cell-empty}
use Rattle.memory_nodes.proofs.cells.Values.new.Goals as goal

pub returns : goal.returns
returns c = cell-empty c.new.result c.new.ensures.empty
