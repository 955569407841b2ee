use Rattle.std.proofs.Common.{rules, arith}
use Rattle.cluster_map.proofs.Numbering.{index_at}
use Rattle.cluster_map.proofs.slot_map.node_set.numbering.index_in.Goals as goal

pub returns-else-ne : goal.returns-else-ne
returns-else-ne c =
    let before = c.loop-index.invariant in
    let d = c.index-found-index.result in
    index_at c.args.node.now c.args.found.now c.loop-index.index d before.within (λ k l. before.others k d l) (λ l. (search rules))

pub returns-after-loop-index : goal.returns-after-loop-index
returns-after-loop-index c =
    let before = c.loop-index.invariant in
    index_at c.args.node.now c.args.found.now c.loop-index.index c.args.node before.within (λ k l. before.others k c.args.node l) (λ l. absurd (omega (arith, c.loop-index-test.false, l)))
