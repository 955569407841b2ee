use Rattle.std.proofs.Common.{◌≡◌, List, length, map}
use Rattle.resp_core.specs.Reply.{Reply}
use Rattle.resp.specs.Forms.{form}
use Rattle.redis_bytes.specs.Merged.{arrays_of}
use Rattle.redis_bytes.specs.Replies.{IsReply}
use Rattle.redis_bytes.proofs.Arrays.{AreSpans}
use Rattle.redis_bytes.proofs.Sequence.{Stand}
use Rattle.redis_bytes.proofs.merging.arrays_in.Given as goal

-- the arrays so far stand at the front, and their items are listed
abbrev pub invariant-loop : goal.invariant-loop
invariant-loop l = record {
  lists : List (List Reply);
  many : length lists ≡ l.counter;
  stand : Stand IsReply l.bytes l.rest (arrays_of lists);
  read : List Reply;
  texts : map (λ item. item.now) l.items.items ≡ map form read;
  spans : AreSpans lists read l.starts.items l.ends.items;
}
