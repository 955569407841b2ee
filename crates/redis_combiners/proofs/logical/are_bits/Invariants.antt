use Rattle.std.proofs.Common.{◌≡◌, map, drop, is_some}
use Rattle.resp_core.specs.View.{view}
use Rattle.redis_combiners.specs.Bits.{bits_among}
use Rattle.redis_combiners.proofs.logical.are_bits.Given as goal

abbrev pub invariant-loop-item : goal.invariant-loop-item
invariant-loop-item l = is_some (bits_among (map view (drop l.item-index l.items))) ≡ is_some (bits_among (map view l.items))
