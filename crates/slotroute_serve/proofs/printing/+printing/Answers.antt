use Rattle.std.proofs.Common.{arith}
use Rattle.slotroute_serve.proofs.Replies.{items_after}
use Rattle.slotroute_serve.proofs.printing.+printing.Goals as goal

pub push_items-returns : goal.push_items-returns
push_items-returns t c =
    items_after c.args.text.now.items c.push_reply.new.text.items c.loop-item.text.items c.args.items.now c.first-item.result c.loop-item.item-index c.in-len1-up.len_at_least c.first-item.is c.in_ok-push_reply.ensures (omega (arith, c.loop-item-test.false)) c.loop-item.invariant
