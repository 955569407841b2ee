use Rattle.std.proofs.Common.{◌∙◌, ◌<◌, Some, length, ap, sym, arith}
use Rattle.std.proofs.lemmas.Option.{slice_get-get_or}
use Rattle.cluster_map.proofs.read_routing.cluster_topology.ClusterTopology.shard_for_slot.Goals as goal

pub returns-in_err-place-clause-shard : goal.returns-in_err-place-clause-shard
returns-in_err-place-clause-shard c = rw (c.from_residual.ensures, ← c.self.view_is) c.in_err-place.ensures.least

pub index-requires : goal.index-requires
index-requires c =
    let a = c.in_ok-place.ensures.least in
    let below : c.in_ok-place.place.now < length c.self.inside.shards.items = c.self.invariant.2 (a.start, a.end, c.in_ok-place.place.now) a.there in
    let ok = c.self.inside.shards.ok in
    omega arith

pub returns-clause-shard : goal.returns-clause-shard
returns-clause-shard c =
    let a = c.in_ok-place.ensures.least in
    let below : c.in_ok-place.place.now < length c.self.inside.shards.items = c.self.invariant.2 (a.start, a.end, c.in_ok-place.place.now) a.there in (
      c.in_ok-place.place.now,
      rw (← c.self.view_is) a,
      rw (← c.self.view_is) (slice_get-get_or c.self.inside.shards.items c.in_ok-place.place.now c.index.result.now below ∙ ap Some (sym c.index.ensures)),
    )
