use Rattle.std.proofs.Common.{All}
use Rattle.redis_session.specs.Directory.{IsKnownAmong}
use Rattle.redis_session.specs.Table.{group_in}
use Rattle.redis_session.proofs.directory.Directory.known_nodes.Given as goal

abbrev pub invariant-loop-address : goal.invariant-loop-address
invariant-loop-address l = All (IsKnownAmong (group_in l.fn.group l.self.table) l.self.nodes) l.known.items
