use Rattle.std.proofs.Common.{slice_get, arith}
use Rattle.std.proofs.lemmas.Nat.{mod_below}
use Rattle.memory_nodes.proofs.Indices.{at_later}
use Rattle.memory_nodes.proofs.strategies.pick_index.node_at.Goals as goal

pub returns-else-place-eq0 : goal.returns-else-place-eq0
returns-else-place-eq0 c = grind (arith, slice_get, at_later, mod_below)
