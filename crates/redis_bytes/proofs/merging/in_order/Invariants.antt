use Rattle.std.proofs.Common.{◌≡◌, ◌++◌, List, length, map, take, decimal}
use Rattle.resp_core.specs.Reply.{Reply, replies_of}
use Rattle.resp.specs.Forms.{form, forms, line}
use Rattle.redis_bytes.proofs.Taking.{Left}
use Rattle.redis_bytes.proofs.merging.in_order.Given as goal

-- the items of the first places are taken and written
abbrev pub invariant-loop-place : goal.invariant-loop-place
invariant-loop-place l = (read : List Reply) → map (λ item. item.now) l.items ≡ map form read → record {
  values : List Reply;
  left : Left read l.fn.nexts.items l.nexts.items l.ends (take l.place-index l.places) values;
  written : l.out.items ≡ line 42 (decimal (length l.places)) ++ forms (replies_of values);
}
