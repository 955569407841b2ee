use Rattle.std.proofs.Common.{◌≡◌, map, is_some, true}
use Rattle.std.specs.Prelude.{option_map}
use Rattle.resp_core.specs.View.{view}
use Rattle.redis_combiners.specs.Bits.{bits_among}
use Rattle.redis_combiners.specs.Logical.{as_int, logical_items}
use Rattle.redis_combiners.proofs.JoinedBits.{joined_replies}
use Rattle.redis_combiners.proofs.logical.items.Given as goal

abbrev pub invariant-loop-reply : goal.invariant-loop-reply
invariant-loop-reply l = (goal.iterator-loop-reply).can_next l.reply-iterator
    × (goal.iterator-loop-reply).is_finite l.reply-iterator
    × (option_map (map as_int) (joined_replies l.op (map view l.row.items) (map view l.reply-iterator.rest.items)) ≡ logical_items l.op (map view l.fn.values.items))
    × (is_some (bits_among (map view l.row.items)) ≡ true)
