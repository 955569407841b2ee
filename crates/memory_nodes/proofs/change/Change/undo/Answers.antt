use Rattle.std.proofs.Common.{◌≡◌, ap, ◌∙◌, sym, Some, option_map}
use Rattle.redis_cluster.specs.Unsplit.{put}
use Rattle.memory_nodes.specs.Cells.{cell_of, keyspace_of}
use Rattle.memory_nodes.specs.Undo.{cell_before}
use Rattle.memory_nodes.specs.declared.change.Before.TheVariants.{AtPath}
use Rattle.memory_nodes.proofs.Keyspaces.{keyspace-lent, keyspace-back}
use Rattle.memory_nodes.proofs.change.Change.undo.Goals as goal

pub returns-in-AtKey : goal.returns-in-AtKey
returns-in-AtKey c =
    let key = c.args.self.key.now in
    let old = keyspace_of c.args.cells.now in
    keyspace-back key c.args.cells.now c.put_back.new.tree c.in-AtKey.before c.put_back.ensures
    ∙ ap (λ before. put key (cell_before before (old key)) old) (sym c.in-AtKey.is)

pub returns-in-Some : goal.returns-in-Some
returns-in-Some c =
    let key = c.args.self.key.now in
    let old = keyspace_of c.args.cells.now in
    let values = c.in-Some.values.now in
    let new = c.put_value_back.new.values in
    let there : Some (cell_of values) ≡ old key = ap (option_map cell_of) c.in-Some.ensures.value in
    keyspace-lent key c.args.cells.now (c.get_mut.follows.lender new) values new c.in-Some.ensures.value (c.get_mut.follows.holds new)
    ∙ ap (λ cell. put key (Some cell) old) c.put_value_back.ensures
    ∙ ap (λ cell. put key (cell_before (AtPath c.in-AtPath.path c.in-AtPath.before) cell) old) there
    ∙ ap (λ before. put key (cell_before before (old key)) old) (sym c.in-AtPath.is)
