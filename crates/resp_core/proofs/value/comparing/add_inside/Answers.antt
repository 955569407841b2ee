use Rattle.std.proofs.Common.{arith, ap, ◌∙◌, map}
use Rattle.std.proofs.lemmas.Result.{IfOk-weaker}
use Rattle.resp_core.specs.Reply.{pairs, pairs_of}
use Rattle.resp_core.specs.View.{view, view_pair}
use Rattle.resp_core.specs.Freeing.{steps_in}
use Rattle.resp_core.proofs.Views.{Array-shows, Map-shows, view-Map}
use Rattle.resp_core.proofs.value.comparing.add_inside.Goals as goal

pub returns-in-Array-Array-clause-same : goal.returns-in-Array-Array-clause-same
returns-in-Array-Array-clause-same c =
    let at = c.in-Array-Array in
    let shows = Array-shows _ _ at.xs at.ys _ _ at.is-0 at.is-1 c.deref.ensures.value c.deref-in-Array-Array.ensures.value in
    IfOk-weaker c.add_items.result _ _ (λ alike same h. let is = same h in (λ k. ((is.0 k).0, shows.0 (is.0 k).1), λ k. is.1 (k.0, shows.1 k.1))) c.add_items.ensures.same

pub returns-in-Array-Array-clause-different : goal.returns-in-Array-Array-clause-different
returns-in-Array-Array-clause-different c =
    let at = c.in-Array-Array in
    let shows = Array-shows _ _ at.xs at.ys _ _ at.is-0 at.is-1 c.deref.ensures.value c.deref-in-Array-Array.ensures.value in
    IfOk-weaker c.add_items.result _ _ (λ alike differ h e. differ h (shows.1 e)) c.add_items.ensures.different

pub returns-in-Map-Map-clause-same : goal.returns-in-Map-Map-clause-same
returns-in-Map-Map-clause-same c =
    let at = c.in-Map-Map in
    let shows = Map-shows _ _ at.xs at.ys _ _ at.is-0 at.is-1 c.deref-in-Map-Map.ensures.value c.deref-in-Map-Map-2.ensures.value in
    IfOk-weaker c.add_pairs.result _ _ (λ alike same h. let is = same h in (λ k. ((is.0 k).0, shows.0 (is.0 k).1), λ k. is.1 (k.0, shows.1 k.1))) c.add_pairs.ensures.same

pub returns-in-Map-Map-clause-different : goal.returns-in-Map-Map-clause-different
returns-in-Map-Map-clause-different c =
    let at = c.in-Map-Map in
    let shows = Map-shows _ _ at.xs at.ys _ _ at.is-0 at.is-1 c.deref-in-Map-Map.ensures.value c.deref-in-Map-Map-2.ensures.value in
    IfOk-weaker c.add_pairs.result _ _ (λ alike differ h e. differ h (shows.1 e)) c.add_pairs.ensures.different

pub returns-in-Map-Map-clause-fewer : goal.returns-in-Map-Map-clause-fewer
returns-in-Map-Map-clause-fewer c =
    let at = c.in-Map-Map in
    let is = ap (λ v. steps_in (view v)) at.is-0 ∙ ap steps_in (view-Map at.xs) in
    let listed = ap (λ ps. steps_in (pairs (pairs_of (map view_pair ps)))) c.deref-in-Map-Map.ensures.value in
    IfOk-weaker c.add_pairs.result _ _ (λ alike fewer h. omega (arith, fewer h, is, listed)) c.add_pairs.ensures.fewer
