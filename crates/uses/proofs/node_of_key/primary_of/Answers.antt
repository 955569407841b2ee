use Rattle.std.proofs.Common.{MatchOption, subst}
use Rattle.cluster_map.specs.RangeMap.{IsUncovered}
use Rattle.cluster_map.specs.RouteNode.{IsNodeOfRoute}
use Rattle.uses.proofs.node_of_key.primary_of.Goals as goal

pub returns : goal.returns
returns c =
    let map = c.args.map.now in
    let node = c.slot_addr_for_route in
    subst (λ r. MatchOption node.result (IsUncovered map r.slot) (λ n. IsNodeOfRoute map r 0 n.now)) c.with_key.ensures.route node.ensures.node
