use Rattle.std.proofs.Common.{◌≡◌}
use Rattle.memory_nodes.specs.Cells.{keyspace_of}
use Rattle.memory_nodes.specs.Undo.{before_all}
use Rattle.memory_nodes.proofs.change.undo_all.Given as goal

-- the changes that are left lead back to the same keyspace
abbrev pub invariant-loop-change : goal.invariant-loop-change
invariant-loop-change l = before_all l.changes.items (keyspace_of l.cells) ≡ before_all l.fn.changes.items (keyspace_of l.fn.cells)

abbrev pub decreases-loop-change : goal.decreases-loop-change
decreases-loop-change l = goal.left-loop-change l
