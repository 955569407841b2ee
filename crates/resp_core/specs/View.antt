-- The reply that a value stands for.
use Rattle.std.specs.Prelude.{string_bytes}
use Rattle.resp_core.specs.Reply.{Reply, nil, int, bulk, array, simple, okay, pairs, replies_of, pairs_of}
use Rattle.resp_core.specs.declared.value.Value.{Value, fold-Value}
use Rattle.resp_core.specs.declared.value.Value.TheOpen.{Value-F}

-- one level, with each value inside seen as its reply
abbrev pub view_step : Value-F Reply → Reply
view_step Value-F.Nil = nil
view_step (Value-F.Int n) = int n
view_step (Value-F.BulkString bytes) = bulk bytes.items
view_step (Value-F.Array items) = array (replies_of items.items)
view_step (Value-F.SimpleString text) = simple (string_bytes text)
view_step Value-F.Okay = okay
view_step (Value-F.Map items) = pairs (pairs_of items.items)

abbrev pub view : Value → Reply
view = fold-Value Reply view_step

abbrev pub view_pair : Value × Value → Reply × Reply
view_pair p = (view p.0, view p.1)
