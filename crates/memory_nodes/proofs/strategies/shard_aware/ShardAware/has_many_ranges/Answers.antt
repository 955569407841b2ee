use Rattle.std.proofs.Common.{◌≡◌, ◌∙◌, Some, sym, arith}
use Rattle.std.proofs.lemmas.Grind.{common_steps}
use Rattle.memory_nodes.proofs.KnownShards.{no_shard, many_exactly}
use Rattle.memory_nodes.proofs.strategies.shard_aware.ShardAware.has_many_ranges.Goals as goal

pub returns-in_default-shard_for_slot : goal.returns-in_default-shard_for_slot
returns-in_default-shard_for_slot c = grind (arith, common_steps, no_shard)

pub returns : goal.returns
returns c =
    let known : c.args.self.now ≡ Some c.in-Some.topology = sym c.self.view_is ∙ c.in-Some.is in
    let facts = c.in-Some-shard_for_slot.ensures in
    rw known (many_exactly c.in-Some.topology c.args.slot c.in-Some-shard_for_slot.shard.now c.slot_ranges.result.now facts.order facts.shard c.slot_ranges.ensures)
