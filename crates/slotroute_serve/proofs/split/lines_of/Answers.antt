use Rattle.std.proofs.Common.{option_copied, ◌∙◌, sym, ap, ◌≡◌, cond, is_none}
use Rattle.redis_cluster.specs.Split.{split_part}
use Rattle.slotroute_serve.specs.Split.{RoutedPart, IsRoutedPart}
use Rattle.slotroute_serve.proofs.Splitting.{node_is, none_is, words_of_part, one_more}
use Rattle.slotroute_serve.proofs.split.lines_of.Goals.{then-is_none, else-is_none}
use Rattle.slotroute_serve.proofs.split.lines_of.Goals as goal

pub loop-number-preserved : goal.loop-number-preserved
loop-number-preserved c =
    let split = c.args.split.now in
    let routes = c.routes-routes.result.now in
    let route = c.index-routes-number.result in
    let i = c.loop-number.number in
    let part : RoutedPart = record { slot = c.slot.result; node = option_copied c.slot_addr_for_route-node.result; words = c.in_ok-part.part } in
    let is_part : IsRoutedPart c.args.slot_map.now (split_part split) route.0 part = record {
      slot = c.slot.ensures;
      node = node_is _ _ c.slot_addr_for_route-node.result c.slot_addr_for_route-node.ensures.node;
      words = words_of_part split routes i route c.in_ok-part.part c.routes-routes.ensures.routes c.loop-number-test.true c.index-routes-number.is c.in_ok-part.ensures;
    } in
    let status : c.if-is_none.status ≡ cond (is_none part.node) 1 c.loop-number.status = elim c.if-is_none.branch [
      | then-is_none w ↦ w.status-is ∙ sym (ap (λ b. cond b 1 c.loop-number.status) (none_is c.slot_addr_for_route-node.result c.is_none.result _ c.is_none.ensures w.if-is_none.true))
      | else-is_none w ↦ w.status-is ∙ sym (ap (λ b. cond b 1 c.loop-number.status) (none_is c.slot_addr_for_route-node.result c.is_none.result _ c.is_none.ensures w.if-is_none.false))
    ] in
    rw (c.in_ok-extend_from_slice.ensures.items, c.deref.ensures.value)
    (one_more c.args.slot_map.now (split_part split) routes i route c.loop-number.lines.items c.in_ok-line_of.field-0.items c.loop-number.status c.if-is_none.status part
    c.loop-number-test.true c.loop-number.invariant c.index-routes-number.is is_part c.in_ok-line_of.ensures status)
