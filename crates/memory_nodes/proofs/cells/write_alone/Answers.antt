use Rattle.std.proofs.Common.{◌≡◌, ap, ◌∙◌, Some, None, option_map}
use Rattle.redis_cluster.specs.Unsplit.{put}
use Rattle.memory_nodes.specs.Cells.{cell_of, keyspace_of}
use Rattle.memory_nodes.specs.Steps.{written}
use Rattle.memory_nodes.proofs.Keyspaces.{keyspace-put, keyspace-same}
use Rattle.memory_nodes.proofs.Undoing.{undone-key, at-err}
use Rattle.memory_nodes.proofs.cells.write_alone.Goals as goal

pub returns-clause-cells : goal.returns-clause-cells
returns-clause-cells c =
    let key = c.args.key.now in
    let path = c.args.path.now in
    let old = c.args.cells.now in
    let values = c.put_value.new.values in
    let is : cell_of values ≡ written path c.args.value.now None = c.in_ok-put_value.ensures.values ∙ ap (λ cell. put path (Some c.args.value.now) cell) c.new-values.ensures in
    keyspace-put key old c.put_at.new.tree (Some values) c.in_ok-before.ensures.tree
    ∙ ap (λ cell. put key (Some cell) (keyspace_of old)) is

pub returns-clause-undo : goal.returns-clause-undo
returns-clause-undo c =
    let key = c.args.key in
    let old = c.args.cells.now in
    let values = c.put_value.new.values in
    let new = c.put_at.new.tree in
    undone-key key (cell_of values) c.in_ok-before.before (keyspace_of new) (keyspace_of old) (keyspace-put key.now old new (Some values) c.in_ok-before.ensures.tree) (ap (option_map cell_of) c.in_ok-before.ensures.before)

pub returns-in_err-before-clause-memory : goal.returns-in_err-before-clause-memory
returns-in_err-before-clause-memory c =
    at-err c.from_residual-in_err-before.result _ (keyspace-same c.args.cells.now c.put_at.new.tree c.in_err-before.ensures.memory)
