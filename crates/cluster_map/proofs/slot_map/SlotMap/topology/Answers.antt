use Rattle.std.proofs.Common.{◌≡◌, ◌∙◌, ◌<◌, All, ap, subst, sym, arith}
use Rattle.std.proofs.lemmas.Grind.{common_steps}
use Rattle.cluster_map.specs.RangeMap.{Ascends, RangeEntry, end_of}
use Rattle.cluster_map.specs.SlotNodes.{SlotNodes}
use Rattle.cluster_map.specs.Topology.{shards_of, topology_of, Agrees}
use Rattle.cluster_map.proofs.Agreement.{agrees, none_past}
use Rattle.cluster_map.proofs.Listed.{listed}
use Rattle.cluster_map.proofs.slot_map.SlotMap.topology.Goals as goal

pub returns-clause-listed : goal.returns-clause-listed
returns-clause-listed c = grind (arith, common_steps, listed)

pub returns-clause-agrees : goal.returns-clause-agrees
returns-clause-agrees c =
    let entries = c.args.self.now in
    let up : Ascends entries = rw (← c.self.view_is) c.shards_of.ensures.order in
    let is : c.in_ok-topology.topology ≡ topology_of (shards_of entries) =
    c.in_ok-topology.ensures.put ∙ ap topology_of (c.in_ok-shards.ensures.shards ∙ ap shards_of c.self.view_is) in
    subst (Agrees entries) (sym is) (agrees entries up)

pub returns-clause-past : goal.returns-clause-past
returns-clause-past c =
    let entries = c.args.self.now in
    let up : Ascends entries = rw (← c.self.view_is) c.shards_of.ensures.order in
    let is : c.in_ok-topology.topology ≡ topology_of (shards_of entries) =
    c.in_ok-topology.ensures.put ∙ ap topology_of (c.in_ok-shards.ensures.shards ∙ ap shards_of c.self.view_is) in
    let below : All (λ (e : RangeEntry SlotNodes). end_of e < 65536) entries =
    subst (All (λ (e : RangeEntry SlotNodes). end_of e < 65536)) c.self.view_is c.in_ok-shards.ensures.ends in
    none_past entries below c.in_ok-topology.topology (subst (Agrees entries) (sym is) (agrees entries up))
