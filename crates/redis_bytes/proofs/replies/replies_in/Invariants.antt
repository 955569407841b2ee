use Rattle.std.proofs.Common.{◌≡◌, length, map}
use Rattle.resp_core.specs.View.{view}
use Rattle.redis_bytes.specs.Replies.{IsReply}
use Rattle.redis_bytes.proofs.Sequence.{Stand, Only}
use Rattle.redis_bytes.proofs.replies.replies_in.Given as goal

-- the values so far stand at the front, and no others do
abbrev pub invariant-loop-number : goal.invariant-loop-number
invariant-loop-number l = record {
  each : length l.values.items ≡ l.number;
  stand : Stand IsReply l.bytes l.rest (map view l.values.items);
  only : Only l.count l.bytes l.rest (map view l.values.items);
}
