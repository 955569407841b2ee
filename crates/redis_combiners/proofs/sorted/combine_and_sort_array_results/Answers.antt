use Rattle.std.proofs.Common.{◌≡◌, ℕ, List, map, length, None, Some, Ok, ap, sym, ◌∙◌, arith}
use Rattle.std.proofs.lemmas.List.{length-map}
use Rattle.resp_core.specs.Reply.{Reply}
use Rattle.resp_core.specs.View.{view}
use Rattle.redis_combiners.specs.KeyPlaces.{all_places}
use Rattle.redis_combiners.specs.Misfits.{first_misfit}
use Rattle.redis_combiners.specs.SortedArrays.{array_or_refusal, sorted_arrays}
use Rattle.redis_combiners.proofs.AtPlaces.{items_stand_at_places}
use Rattle.redis_combiners.proofs.Combining.{LastStep, places_of_lists, last_step}
use Rattle.redis_combiners.proofs.sorted.combine_and_sort_array_results.Goals as goal

pub arrange-requires : goal.arrange-requires
arrange-requires c =
    let rs : List Reply = map view c.args.values.items in
    let lists : List (List ℕ) = map (λ route. route.1.items) c.args.sorting_order.now in
    let all = c.in-Some.places.all.items in
    let counts = c.in-Some.places.counts.items in
    let all_is = rw c.in-Some.is at c.in_ok-places.ensures.all in
    let counts_are = rw c.in-Some.is at c.in_ok-places.ensures.counts in
    let same : length rs ≡ length counts = omega (arith, length-map c.args.values.items view, c.args.values.ok.0, c.in-Some.places.counts.ok.0, c.if-len.false, c.len.ensures, c.len-2.ensures) in
    let fit : first_misfit rs counts ≡ None = ap (λ ws. first_misfit (map view ws) counts) (sym c.deref.ensures.value) ∙ ap (first_misfit (map view c.deref.result.now)) (sym c.deref-2.ensures.value) ∙ c.in_ok-check_fit.ensures in
    let k : LastStep c.args.pattern.now rs lists all = last_step c.args.pattern.now rs lists all counts (places_of_lists (all_places c.args.pattern.now lists) all counts all_is counts_are) same fit in
    k.long ∙ ap (λ ps. Some (length ps)) (sym c.deref-3.ensures.value)

pub returns-clause-at_place : goal.returns-clause-at_place
returns-clause-at_place c =
    let rs : List Reply = map view c.args.values.items in
    let lists : List (List ℕ) = map (λ route. route.1.items) c.args.sorting_order.now in
    let all = c.in-Some.places.all.items in
    let counts = c.in-Some.places.counts.items in
    let all_is = rw c.in-Some.is at c.in_ok-places.ensures.all in
    let counts_are = rw c.in-Some.is at c.in_ok-places.ensures.counts in
    let same : length rs ≡ length counts = omega (arith, length-map c.args.values.items view, c.args.values.ok.0, c.in-Some.places.counts.ok.0, c.if-len.false, c.len.ensures, c.len-2.ensures) in
    let fit : first_misfit rs counts ≡ None = ap (λ ws. first_misfit (map view ws) counts) (sym c.deref.ensures.value) ∙ ap (first_misfit (map view c.deref.result.now)) (sym c.deref-2.ensures.value) ∙ c.in_ok-check_fit.ensures in
    let k : LastStep c.args.pattern.now rs lists all = last_step c.args.pattern.now rs lists all counts (places_of_lists (all_places c.args.pattern.now lists) all counts all_is counts_are) same fit in
    let some = rw c.in-Some-2.is at c.in_ok-sorted.ensures in
    let sorted = rw c.deref-3.ensures.value at some in
    let whole : sorted_arrays c.args.pattern.now rs lists ≡ Ok (view c.as_array.result) = k.is ∙ ap (array_or_refusal None) (sym sorted) ∙ ap Ok (sym c.as_array.ensures) in
    items_stand_at_places c.args.pattern.now rs lists (view c.as_array.result) whole
