use Rattle.std.proofs.Common.{◌≡◌, ◌++◌, List, length}
use Rattle.redis_cluster.specs.Unsplit.{TupleResult, after, results}
use Rattle.memory_nodes.specs.Cells.{keyspace_of}
use Rattle.memory_nodes.specs.Parts.{words, key_tuples, act_on}
use Rattle.memory_nodes.specs.Results.{HoldResults, HaveRoom, FitPolicy}
use Rattle.memory_nodes.specs.Undo.{before_all}
use Rattle.memory_nodes.specs.declared.action.Action.TheVariants.{Remove}
use Rattle.memory_nodes.proofs.tuples.run_tuples.Given as goal

-- What is kept so far, and what the tuples that are left add, is what all add; and those that are left lead to the same keyspace. Undoing the changes leads back, but for removals.
abbrev pub invariant-loop-rest : goal.invariant-loop-rest
invariant-loop-rest l = record {
  cells : after (act_on l.whole) (key_tuples l.whole.pattern (words l.rest)) (keyspace_of l.cells) ≡ after (act_on l.whole) (key_tuples l.whole.pattern (words l.whole.tuples.now)) (keyspace_of l.fn.cells);
  added : (done : List TupleResult) × HoldResults l.results done × (done ++ results (act_on l.whole) (key_tuples l.whole.pattern (words l.rest)) (keyspace_of l.cells) ≡ results (act_on l.whole) (key_tuples l.whole.pattern (words l.whole.tuples.now)) (keyspace_of l.fn.cells));
  room : HaveRoom l.results (length l.rest);
  fit : FitPolicy l.results l.whole.policy;
  undo : ¬ (l.action ≡ Remove) → before_all l.changes.items (keyspace_of l.cells) ≡ before_all l.fn.changes.items (keyspace_of l.fn.cells);
}

abbrev pub decreases-loop-rest : goal.decreases-loop-rest
decreases-loop-rest l = length l.rest
