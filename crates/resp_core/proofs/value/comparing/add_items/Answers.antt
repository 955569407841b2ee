use Rattle.std.proofs.Common.{rules, arith, ap, ◌∙◌, length, map, take}
use Rattle.std.proofs.lemmas.List.{length_push}
use Rattle.std.proofs.lemmas.Slice.Zip.{zip_turn}
use Rattle.resp_core.specs.View.{view}
use Rattle.resp_core.specs.Reply.{replies_of}
use Rattle.resp_core.specs.Freeing.{steps_in_items}
use Rattle.resp_core.proofs.SameItems.{differ_from_item}
use Rattle.resp_core.proofs.Freeing.{steps_in_items-more}
use Rattle.resp_core.proofs.Comparing.{map-take_more, same-more, steps_in_value-le}
use Rattle.resp_core.proofs.value.comparing.add_items.Goals as goal

pub returns-then-not-branch-clause-different : goal.returns-then-not-branch-clause-different
returns-then-not-branch-clause-different c =
    let turn = zip_turn c.args.xs.now c.args.ys.now c.loop-x.yielded c.into_iter-x-iterator.result c.loop-x.x-iterator c.next.new.self _ (search rules) (search rules) c.loop-x.yielded_by _ c.in-Some.is c.next.ensures.steps in
    λ _. differ_from_item view _ _ _ _ _ turn (c.in_ok-add.ensures.different c.if-not-branch.true)

pub loop-x-preserved : goal.loop-x-preserved
loop-x-preserved c =
    let turn = zip_turn c.args.xs.now c.args.ys.now c.loop-x.yielded c.into_iter-x-iterator.result c.loop-x.x-iterator c.next.new.self _ (search rules) (search rules) c.loop-x.yielded_by _ c.in-Some.is c.next.ensures.steps in
    let n = length c.loop-x.yielded in
    let more = length_push c.loop-x.yielded (c.in-Some.x, c.in-Some.y) in
    let xs = ap (λ k. map view (take k c.args.xs.now)) more ∙ map-take_more view c.args.xs.now n c.in-Some.x.now turn.0 (turn.2 _) in
    let ys = ap (λ k. map view (take k c.args.ys.now)) more ∙ map-take_more view c.args.ys.now n c.in-Some.y.now turn.1 (turn.3 _) in
    let before = c.loop-x.invariant in
    let steps = ap (λ rs. steps_in_items (replies_of rs)) xs ∙ steps_in_items-more (map view (take n c.args.xs.now)) (view c.in-Some.x.now) in (
      (tt, tt),
      tt,
      same-more _ _ _ _ _ _ _ _ _ xs ys before.2 (c.in_ok-add.ensures.same c.if-not-branch.false),
      omega (arith, steps, before.3, c.in_ok-add.ensures.fewer c.if-not-branch.false, steps_in_value-le (view c.in-Some.x.now)),
    )
