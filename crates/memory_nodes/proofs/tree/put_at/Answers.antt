use Rattle.std.proofs.Common.{ap, ◌∙◌, Some}
use Rattle.redis_cluster.specs.Unsplit.{put}
use Rattle.memory_nodes.specs.Cells.{tree_value}
use Rattle.memory_nodes.proofs.Bytes.{found-put}
use Rattle.memory_nodes.proofs.tree.put_at.Goals as goal

pub returns-clause-tree : goal.returns-clause-tree
returns-clause-tree g c =
    let key = c.in_ok-to_vec.field-0 in
    found-put key.items c.args.tree.now c.insert.new.self (Some c.args.value) c.in_ok-before.ensures.updates
    ∙ ap (λ k. put k (Some c.args.value) (tree_value c.args.tree.now)) (c.in_ok-to_vec.ensures.items_if_clones_equal (λ x y e. e))
