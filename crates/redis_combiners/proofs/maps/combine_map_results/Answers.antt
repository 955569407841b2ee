use Rattle.std.proofs.Common.{◌≡◌, map, Some, None, ap, sym, ◌∙◌, inr, arith, rules}
use Rattle.std.proofs.lemmas.Grind.{common_steps}
use Rattle.std.specs.Prelude.{option_and_then}
use Rattle.resp_core.specs.Reply.{pairs, pairs_of}
use Rattle.resp_core.specs.View.{view, view_pair}
use Rattle.resp_core.specs.declared.value.Value.{Map, the_lemmas}
use Rattle.redis_combiners.specs.KeyNumbers.{all_pairs}
use Rattle.redis_combiners.specs.Totals.{map_of_totals}
use Rattle.redis_combiners.proofs.ByKey.{none_there}
use Rattle.redis_combiners.proofs.Joined.{combined_from}
use Rattle.redis_combiners.proofs.TotalOrders.{few_counted, uncounted}
use Rattle.redis_combiners.proofs.Totals.{listing}
use Rattle.redis_combiners.proofs.maps.combine_map_results.Goals as goal

pub returns-in_default-clause-answer : goal.returns-in_default-clause-answer
returns-in_default-clause-answer c = inr (uncounted (map view c.args.values.items) (rw (c.in_default.is, c.deref.ensures.value) at c.pair_count.ensures), c.misfit.ensures)

pub returns-in_err-totals-clause-too_many : goal.returns-in_err-totals-clause-too_many
returns-in_err-totals-clause-too_many c =
    let few = few_counted (all_pairs (map view c.args.values.items)) c.in-Some.count (rw (c.in-Some.is, c.deref.ensures.value) at c.pair_count.ensures) in
    grind (arith, common_steps)

pub returns-in_err-list-clause-too_many : goal.returns-in_err-list-clause-too_many
returns-in_err-list-clause-too_many c =
    let few = few_counted (all_pairs (map view c.args.values.items)) c.in-Some.count (rw (c.in-Some.is, c.deref.ensures.value) at c.pair_count.ensures) in
    grind (arith, common_steps)

pub returns-in-Some-3-clause-too_many : goal.returns-in-Some-3-clause-too_many
returns-in-Some-3-clause-too_many c =
    let few = few_counted (all_pairs (map view c.args.values.items)) c.in-Some.count (rw (c.in-Some.is, c.deref.ensures.value) at c.pair_count.ensures) in
    grind (arith, common_steps)

pub returns-in_default-2-clause-answer : goal.returns-in_default-2-clause-answer
returns-in_default-2-clause-answer c =
    let none : None ≡ all_pairs (map view c.args.values.items) = none_there (all_pairs (map view c.args.values.items)) (λ q. rw c.in_default-2.is at c.in_ok-totals.ensures q) in
    inr (ap (option_and_then map_of_totals) (sym none), c.misfit-in_default-2.ensures)

pub returns-in-Some-3-clause-answer : goal.returns-in-Some-3-clause-answer
returns-in-Some-3-clause-answer c =
    let few = few_counted (all_pairs (map view c.args.values.items)) c.in-Some.count (rw (c.in-Some.is, c.deref.ensures.value) at c.pair_count.ensures) in
    let list = c.in-Some-3.list in
    let seen : view (Map list) ≡ pairs (pairs_of (map view_pair list.items)) = search (rules, the_lemmas) in
    combined_from (map view c.args.values.items) c.in-Some-2.totals.items c.by_key.result.items (Some (map view_pair list.items))
    few (λ q. rw c.in-Some-2.is at c.in_ok-totals.ensures q) c.by_key.ensures.same c.by_key.ensures.ascending (rw c.in-Some-3.is at c.in_ok-list.ensures)
    ∙ ap Some (sym seen)

pub returns-in-None-clause-answer : goal.returns-in-None-clause-answer
returns-in-None-clause-answer c =
    let few = few_counted (all_pairs (map view c.args.values.items)) c.in-Some.count (rw (c.in-Some.is, c.deref.ensures.value) at c.pair_count.ensures) in
    let refused = combined_from (map view c.args.values.items) c.in-Some-2.totals.items c.by_key.result.items None
    few (λ q. rw c.in-Some-2.is at c.in_ok-totals.ensures q) c.by_key.ensures.same c.by_key.ensures.ascending (rw c.in-None.is at c.in_ok-list.ensures) in
    inr (refused, c.misfit-in-None.ensures)

pub returns-in_default-2-clause-listing : goal.returns-in_default-2-clause-listing
returns-in_default-2-clause-listing c = listing

pub returns-in_err-totals-clause-listing : goal.returns-in_err-totals-clause-listing
returns-in_err-totals-clause-listing c = listing

pub returns-in_err-list-clause-listing : goal.returns-in_err-list-clause-listing
returns-in_err-list-clause-listing c = listing

pub returns-in-Some-3-clause-listing : goal.returns-in-Some-3-clause-listing
returns-in-Some-3-clause-listing c = listing

pub returns-in-None-clause-listing : goal.returns-in-None-clause-listing
returns-in-None-clause-listing c = listing

pub returns-in_default-clause-listing : goal.returns-in_default-clause-listing
returns-in_default-clause-listing c = listing
