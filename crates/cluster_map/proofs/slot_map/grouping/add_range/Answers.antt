use Rattle.std.proofs.Common.{arith, ◌∙◌, ap, refl}
use Rattle.cluster_map.proofs.Groups.{add_range as add, add_range-is, add_fresh, add_known, keys_known, place_within}
use Rattle.cluster_map.proofs.slot_map.grouping.add_range.Goals as goal

pub returns-in_ok-push-clause-shards : goal.returns-in_ok-push-clause-shards
returns-in_ok-push-clause-shards c es is =
    add_fresh c.args.shards.now.items _ (c.args.start, c.args.end, c.args.addrs.now) c.args.seen.now c.primary.result.now _ _ c.requires c.primary.ensures c.in_ok-place.ensures.is_new c.if-is_new.true c.in_ok-push.ensures.items
    (c.in_ok-of_range.ensures ∙ rw (c.primary-then-is_new.ensures, c.replicas.ensures) refl)
    ∙ ap (λ z. add z (c.args.start, c.args.end, c.args.addrs.now)) is
    ∙ add_range-is es (c.args.start, c.args.end, c.args.addrs.now)

pub returns-in_ok-push_range-clause-nodes : goal.returns-in_ok-push_range-clause-nodes
returns-in_ok-push_range-clause-nodes c =
    keys_known c.args.shards.now.items (c.args.start, c.args.end, c.args.addrs.now) c.args.seen.now _ c.primary.result.now _ _ _ _ c.requires c.in_ok-place.ensures.is_new c.if-is_new.false c.in_ok-place.ensures.nodes c.index_mut-shard.ensures.value c.in_ok-push_range.ensures.added

pub returns-in_ok-push_range-clause-shards : goal.returns-in_ok-push_range-clause-shards
returns-in_ok-push_range-clause-shards c es is =
    add_known c.args.shards.now.items (c.args.start, c.args.end, c.args.addrs.now) c.args.seen.now c.primary.result.now _ _ _ _ c.requires c.primary.ensures c.in_ok-place.ensures.is_new c.if-is_new.false c.in_ok-place.ensures.index c.index_mut-shard.ensures.value c.in_ok-push_range.ensures.added
    ∙ ap (λ z. add z (c.args.start, c.args.end, c.args.addrs.now)) is
    ∙ add_range-is es (c.args.start, c.args.end, c.args.addrs.now)

pub index_mut-shard-requires : goal.index_mut-shard-requires
index_mut-shard-requires c =
    let within = place_within c.args.shards.now.items c.args.seen.now c.primary.result.now _ _ c.requires c.in_ok-place.ensures.is_new c.if-is_new.false c.in_ok-place.ensures.index in
    let ok = c.args.shards.now.ok in
    omega (arith, within, ok)
