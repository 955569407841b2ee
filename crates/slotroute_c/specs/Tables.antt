-- The table of a reply to CLUSTER SLOTS, and what is reported of it.
use Rattle.std.specs.Prelude.{◌≡◌, ℕ, List, length}
use Rattle.resp_core.specs.Reply.{Reply}
use Rattle.cluster_map.specs.ReplyNode.{entries_in}
use Rattle.redis_bytes.specs.Replies.{IsReply}
use Rattle.redis_bytes.specs.Table.{IsTable}
use Rattle.redis_bytes.specs.declared.tables.Table.{Table}
use Rattle.slotroute_c.specs.declared.told.Told.{Told}
use Rattle.slotroute_c.specs.Fields.{with_sizes}
use Rattle.slotroute_c.specs.RouteNumbers.{addr_of}

-- The bytes are one reply, and this is its table. The count of numbers and of bytes is reported.
pub record IsTableOf (reply answering : List ℕ) (addr pick : ℕ) (old new : Told)
    (table : Table) : Type 0 where
  pub said : Reply
  pub is : IsReply said reply
  pub is_table : IsTable (entries_in answering said) (addr_of addr) pick table
  pub told : new ≡ with_sizes (length table.numbers.items) (length table.nodes.items) old
