use Rattle.std.proofs.Common.{◌≡◌, ◌∙◌, map, Some, ap, sym, arith}
use Rattle.std.proofs.lemmas.Grind.{common_steps}
use Rattle.resp_core.specs.Reply.{array_of}
use Rattle.resp_core.specs.View.{view}
use Rattle.redis_combiners.specs.KeyNumbers.{all_pairs}
use Rattle.redis_combiners.proofs.ByKey.{total_with, replies_more}
use Rattle.redis_combiners.proofs.maps.add_up.Goals as goal

pub loop-value-preserved : goal.loop-value-preserved
loop-value-preserved c =
    let old = c.loop-value.totals.items in
    let rest = map view c.next.new.self.rest.items in
    let items : Some (map view c.in-Some-into_array.items.items) ≡ array_of (view c.in-Some.value) = rw c.in-Some-into_array.is at c.into_array.ensures in (
      tt,
      tt,
      λ q. replies_more q old c.add_pairs.new.totals.items (view c.in-Some.value) rest (map view c.in-Some-into_array.items.items) (sym items) (rw c.if-not-branch.false at c.in_ok-add_pairs.ensures q)
          ∙ ap (λ z. total_with q old (all_pairs (map view z))) (sym c.in-Some.ensures.steps.0)
          ∙ c.loop-value.invariant.2 q,
    )

pub returns-then-not-branch : goal.returns-then-not-branch
returns-then-not-branch c q = let left = c.loop-value.invariant.2 q in let none = c.in_ok-add_pairs.ensures q in grind (arith, common_steps)
