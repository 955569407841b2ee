use Rattle.std.proofs.Common.{◌≡◌, ◌+◌, map, drop, length, ◌++◌}
use Rattle.resp_core.specs.View.{view_pair}
use Rattle.redis_commands.proofs.ByAddress.{named}
use Rattle.redis_commands.proofs.combining.by_address.Given as goal

abbrev pub invariant-loop-value : goal.invariant-loop-value
invariant-loop-value l =
    (goal.iterator-loop-value).can_next l.value-iterator
    × (goal.iterator-loop-value).is_finite l.value-iterator
    × (l.number + length l.value-iterator.rest.items ≡ length l.fn.values.items)
    × (map view_pair l.entries.items ++ named (drop l.number l.fn.nodes) l.value-iterator.rest.items ≡ named l.fn.nodes l.fn.values.items)
