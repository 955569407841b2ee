use Rattle.std.proofs.Common.{◌≡◌, rules, ap}
use Rattle.std.proofs.lemmas.Bool.{false≢true}
use Rattle.std.proofs.lemmas.Bool.Decides.{not_from_Decides}
use Rattle.std.proofs.lemmas.Slice.Zip.{zip_turn}
use Rattle.resp_core.specs.View.{view, view_pair}
use Rattle.resp_core.proofs.SameItems.{differ_from_item}
use Rattle.resp_core.proofs.Views.{Array-same, Map-same}
use Rattle.resp_core.proofs.value.+same.Goals as goal
use Rattle.resp_core.proofs.value.+same.Goals.{same_pairs-then-not-same_value-via-then-not-same_value, same_pairs-then-not-same_value-via-else-not-same_value+then-not-same_value-2}

pub same_items-returns-then-not-same_value : goal.same_items-returns-then-not-same_value
same_items-returns-then-not-same_value t c =
    let turn = zip_turn c.args.xs.now c.args.ys.now c.loop-x.yielded c.into_iter-x-iterator.result c.loop-x.x-iterator c.next.new.self _ (search rules) (search rules) c.loop-x.yielded_by _ c.in-Some.is c.next.ensures.steps in
    let differ : view c.in-Some.x.now ≡ view c.in-Some.y.now → ⊥ = not_from_Decides _ c.same_value.ensures c.if-not-same_value.true in
    (λ h. absurd (false≢true h), λ e. absurd (differ_from_item view _ _ _ _ _ turn differ e))

pub same_pairs-returns-then-not-same_value : goal.same_pairs-returns-then-not-same_value
same_pairs-returns-then-not-same_value t c =
    let turn = zip_turn c.args.xs.now c.args.ys.now c.loop-x.yielded c.into_iter-x-iterator.result c.loop-x.x-iterator c.next.new.self _ (search rules) (search rules) c.loop-x.yielded_by _ c.in-Some.is c.next.ensures.steps in (
      λ h. absurd (false≢true h),
      λ e. absurd (differ_from_item view_pair _ _ _ _ _ turn (λ same.
          elim c.then-not-same_value.branch [
            | same_pairs-then-not-same_value-via-then-not-same_value w ↦ not_from_Decides _ c.same_value.ensures w.if-not-same_value.true (ap (λ p. p.0) same)
            | same_pairs-then-not-same_value-via-else-not-same_value+then-not-same_value-2 w ↦ not_from_Decides _ w.same_value-else-not-same_value.ensures w.if-not-same_value-2.true (ap (λ p. p.1) same)
          ]) e),
    )

pub same_value-returns-in-None : goal.same_value-returns-in-None
same_value-returns-in-None t c =
    let at = c.in-Array-Array in
    Array-same _ _ _ at.xs at.ys _ _ at.is-0 at.is-1 c.deref.ensures.value c.deref-in-None.ensures.value c.same_items.ensures

pub same_value-returns-in-None-same_if_deep : goal.same_value-returns-in-None-same_if_deep
same_value-returns-in-None-same_if_deep t c =
    let at = c.in-Map-Map in
    Map-same _ _ _ at.xs at.ys _ _ at.is-0 at.is-1 c.deref-in-None-same_if_deep.ensures.value c.deref-in-None-same_if_deep-2.ensures.value c.same_pairs.ensures
