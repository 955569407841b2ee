use Rattle.std.proofs.Common.{None}
use Rattle.memory_nodes.proofs.Bytes.{found-put}
use Rattle.memory_nodes.proofs.Keyspaces.{keyspace-put}
use Rattle.memory_nodes.proofs.cells.remove.Goals as goal

pub returns-clause-cells : goal.returns-clause-cells
returns-clause-cells c = keyspace-put c.args.key.now c.args.cells.now c.remove.new.self None (found-put c.args.key.now c.args.cells.now c.remove.new.self None c.remove.ensures.updates)
