use Rattle.std.proofs.Common.{◌≡◌, rules}
use Rattle.cluster_map.specs.SlotNodes.{same_range}
use Rattle.cluster_map.proofs.SameRanges.{range_decides}
use Rattle.cluster_map.proofs.slot_range.SlotRangePartialEq.eq.Goals as goal

pub returns-then-eq-clause-same : goal.returns-then-eq-clause-same
returns-then-eq-clause-same c =
    let value : c.eq-then-eq.result ≡ same_range c.args.self.now c.args.other.now = search rules in
    rw value (range_decides c.args.self.now c.args.other.now)
