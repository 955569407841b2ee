use Rattle.std.proofs.Common.{All}
use Rattle.redis_session.specs.Learned.{IsInMap}
use Rattle.redis_session.proofs.directory.Directory.unknown_nodes.Given as goal

abbrev pub invariant-loop-address : goal.invariant-loop-address
invariant-loop-address l = All (IsInMap l.self.table) l.unknown.items
