use Rattle.std.proofs.Common.{◌≡◌, arith, refl, ◌∙◌, ap, subst, IfOk, reverse}
use Rattle.std.specs.List.{range_with_len}
use Rattle.std.proofs.lemmas.Iterator.{items_from_collect, YieldsList-from_range}
use Rattle.slotroute_serve.proofs.direction.send_order.Goals.{in-Forward, in-Reverse}
use Rattle.slotroute_serve.proofs.direction.send_order.Goals as goal

pub returns : goal.returns
returns c =
    let ran : IfOk c.collect.result (λ w. w.items ≡ range_with_len 0 c.args.count) = items_from_collect c.collect.result c.collect.ensures.ran (YieldsList-from_range 0 c.args.count c.args.count refl (omega arith)) in
    let order : c.in_ok-order.order.items ≡ range_with_len 0 c.args.count = subst (λ r. IfOk r (λ w. w.items ≡ range_with_len 0 c.args.count)) c.in_ok-order.was ran in
    elim c.match-direction.branch [
      | in-Forward w ↦ rw (w.order-is, w.in-Forward.is) order
      | in-Reverse w ↦ rw (w.order-is, w.in-Reverse.is) (w.reverse.ensures.items ∙ ap reverse order)
    ]
