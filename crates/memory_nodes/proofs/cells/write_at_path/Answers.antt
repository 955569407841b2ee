use Rattle.std.proofs.Common.{ap, ◌∙◌, Some, option_map}
use Rattle.redis_cluster.specs.Unsplit.{put}
use Rattle.memory_nodes.specs.Cells.{cell_of, keyspace_of}
use Rattle.memory_nodes.specs.Steps.{written}
use Rattle.memory_nodes.proofs.Keyspaces.{keyspace-lent}
use Rattle.memory_nodes.proofs.Puts.{put-same}
use Rattle.memory_nodes.proofs.Undoing.{undone-path, at-err}
use Rattle.memory_nodes.proofs.cells.write_at_path.Goals as goal

pub returns-in_ok-before-in-Some-clause-cells : goal.returns-in_ok-before-in-Some-clause-cells
returns-in_ok-before-in-Some-clause-cells c =
    let key = c.args.key.now in
    let old = keyspace_of c.args.cells.now in
    let new = c.put_value.new.values in
    let there = c.in-Some.ensures.value in
    keyspace-lent key c.args.cells.now (c.get_mut.follows.lender new) c.in-Some.values.now new there (c.get_mut.follows.holds new)
    ∙ ap (λ cell. put key (Some cell) old) c.in_ok-before-in-Some.ensures.values
    ∙ ap (λ cell. put key (Some (written c.args.path.now c.args.value.now cell)) old) (ap (option_map cell_of) there)

pub returns-in_ok-before-in-Some-clause-undo : goal.returns-in_ok-before-in-Some-clause-undo
returns-in_ok-before-in-Some-clause-undo c =
    let cells = c.args.cells.now in
    let values = c.in-Some.values.now in
    let new = c.put_value.new.values in
    let lender = c.get_mut.follows.lender new in
    let there = c.in-Some.ensures.value in
    let is = keyspace-lent c.args.key.now cells lender values new there (c.get_mut.follows.holds new) in
    undone-path c.args.key c.args.path c.args.value.now (cell_of values) (cell_of new) c.in_ok-before-in-Some.before (keyspace_of lender) (keyspace_of cells) is (ap (option_map cell_of) there) c.in_ok-before-in-Some.ensures.values c.in_ok-before-in-Some.ensures.before

pub returns-in_err-before-in-Some-clause-memory : goal.returns-in_err-before-in-Some-clause-memory
returns-in_err-before-in-Some-clause-memory c =
    let key = c.args.key.now in
    let old = keyspace_of c.args.cells.now in
    let new = c.put_value.new.values in
    let there = c.in-Some.ensures.value in
    let is = keyspace-lent key c.args.cells.now (c.get_mut.follows.lender new) c.in-Some.values.now new there (c.get_mut.follows.holds new) in
    at-err c.from_residual.result _ (is ∙ ap (λ cell. put key (Some cell) old) c.in_err-before-in-Some.ensures.memory ∙ ap (λ o. put key o old) (ap (option_map cell_of) there) ∙ put-same key old)
