-- The items of all replies, in order.
use Rattle.std.specs.Prelude.{List, map, Option, option_map}
use Rattle.resp_core.specs.Reply.{Reply, array_of}
use Rattle.cluster_slots.specs.Lists.{all_some, flatten}

-- the items of all replies, one reply after the other, if each is an array
abbrev pub all_items : List Reply → Option (List Reply)
all_items replies = option_map flatten (all_some (map array_of replies))
