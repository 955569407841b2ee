use Rattle.std.proofs.Common.{ap, ◌∙◌, sym, Some, None}
use Rattle.redis_cluster.specs.Unsplit.{put}
use Rattle.memory_nodes.specs.Cells.{tree_value}
use Rattle.memory_nodes.specs.Undo.{back}
use Rattle.memory_nodes.proofs.Bytes.{found-put, found-lent}
use Rattle.memory_nodes.proofs.tree.put_back.Goals as goal

pub returns-in-Some-get_mut : goal.returns-in-Some-get_mut
returns-in-Some-get_mut g c =
    let bytes = c.args.bytes.now in
    let old = tree_value c.args.tree.now in
    let now = c.in-Some-get_mut.now.now in
    let before = c.in-Some.before in
    found-lent bytes c.args.tree.now (c.get_mut.follows.lender before) now before c.in-Some-get_mut.ensures.value (c.get_mut.follows.holds before)
    ∙ ap (λ o. put bytes (back (Some before) o) old) c.in-Some-get_mut.ensures.value
    ∙ ap (λ o. put bytes (back o (old bytes)) old) (sym c.in-Some.is)

pub returns-in-None : goal.returns-in-None
returns-in-None g c =
    let bytes = c.args.bytes.now in
    let old = tree_value c.args.tree.now in
    found-put bytes c.args.tree.now c.remove.new.self None c.remove.ensures.updates
    ∙ ap (λ o. put bytes (back o (old bytes)) old) (sym c.in-None.is)
