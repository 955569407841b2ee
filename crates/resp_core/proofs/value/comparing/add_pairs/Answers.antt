use Rattle.std.proofs.Common.{rules, arith, ap, ◌∙◌, length, map, take}
use Rattle.std.proofs.lemmas.List.{length_push}
use Rattle.std.proofs.lemmas.Slice.Zip.{zip_turn}
use Rattle.resp_core.specs.View.{view, view_pair}
use Rattle.resp_core.specs.Reply.{pairs_of}
use Rattle.resp_core.specs.Freeing.{steps_in_pairs}
use Rattle.resp_core.proofs.SameItems.{differ_from_item}
use Rattle.resp_core.proofs.Freeing.{steps_in_pairs-more}
use Rattle.resp_core.proofs.Comparing.{map-take_more, same-more, same-both, steps_in_value-le}
use Rattle.resp_core.proofs.value.comparing.add_pairs.Goals as goal
use Rattle.resp_core.proofs.value.comparing.add_pairs.Goals.{then-not-branch-via-then-not-branch, then-not-branch-via-else-not-branch+in_ok-add-2+then-not-branch-2}

pub returns-then-not-branch-clause-different : goal.returns-then-not-branch-clause-different
returns-then-not-branch-clause-different c =
    let turn = zip_turn c.args.xs.now c.args.ys.now c.loop-x.yielded c.into_iter-x-iterator.result c.loop-x.x-iterator c.next.new.self _ (search rules) (search rules) c.loop-x.yielded_by _ c.in-Some.is c.next.ensures.steps in
    λ _. differ_from_item view_pair _ _ _ _ _ turn (λ same.
    elim c.then-not-branch.branch [
      | then-not-branch-via-then-not-branch w ↦ c.in_ok-add.ensures.different w.if-not-branch.true (ap (λ p. p.0) same)
      | then-not-branch-via-else-not-branch+in_ok-add-2+then-not-branch-2 w ↦ w.in_ok-add-2.ensures.different w.if-not-branch-2.true (ap (λ p. p.1) same)
    ])

pub loop-x-preserved : goal.loop-x-preserved
loop-x-preserved c =
    let turn = zip_turn c.args.xs.now c.args.ys.now c.loop-x.yielded c.into_iter-x-iterator.result c.loop-x.x-iterator c.next.new.self _ (search rules) (search rules) c.loop-x.yielded_by _ c.in-Some.is c.next.ensures.steps in
    let n = length c.loop-x.yielded in
    let x = c.in-Some.x.now in
    let y = c.in-Some.y.now in
    let more = length_push c.loop-x.yielded (c.in-Some.x, c.in-Some.y) in
    let xs = ap (λ k. map view_pair (take k c.args.xs.now)) more ∙ map-take_more view_pair c.args.xs.now n x turn.0 (turn.2 _) in
    let ys = ap (λ k. map view_pair (take k c.args.ys.now)) more ∙ map-take_more view_pair c.args.ys.now n y turn.1 (turn.3 _) in
    let before = c.loop-x.invariant in
    let both = same-both _ _ _ (view_pair x) (view_pair y) (c.in_ok-add.ensures.same c.if-not-branch.false) (c.in_ok-add-2.ensures.same c.if-not-branch-2.false) in
    let steps = ap (λ ps. steps_in_pairs (pairs_of ps)) xs ∙ steps_in_pairs-more (map view_pair (take n c.args.xs.now)) (view_pair x) in (
      (tt, tt),
      tt,
      same-more _ _ _ _ _ _ _ _ _ xs ys before.2 both,
      omega (arith, steps, before.3, c.in_ok-add.ensures.fewer c.if-not-branch.false, c.in_ok-add-2.ensures.fewer c.if-not-branch-2.false, steps_in_value-le (view x.0)),
    )
