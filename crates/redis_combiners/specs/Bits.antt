-- Replies that are arrays of 0 and 1, a row of bits each.
use Rattle.std.specs.Prelude.{zero, suc, ℤ, pos, negsuc, Bool, true, false, List, map, Option, Some, None, option_and_then}
use Rattle.resp_core.specs.Reply.{Reply, int_of, array_of}
use Rattle.cluster_slots.specs.Lists.{all_some}

-- whether the number is 1, if it is 0 or 1
abbrev pub bit_of : ℤ → Option Bool
bit_of (pos zero) = Some false
bit_of (pos (suc zero)) = Some true
bit_of (pos (suc (suc n))) = None
bit_of (negsuc n) = None

-- the bits of some items, if each is 0 or 1
abbrev pub bits_among : List Reply → Option (List Bool)
bits_among items = all_some (map (λ item. option_and_then bit_of (int_of item)) items)

-- the row of bits of each reply, if each is an array of 0 and 1
abbrev pub all_rows : List Reply → Option (List (List Bool))
all_rows replies = all_some (map (λ reply. option_and_then bits_among (array_of reply)) replies)
