use Rattle.std.proofs.Common.{nat_lt, nat_cmp, reverse, [], sym, ◌∙◌, rules}
use Rattle.std.proofs.lemmas.Fn.{dedup_same}
use Rattle.std.proofs.lemmas.List.Sorted.{answers_always, IsNonDecreasingBy-from_sort_by_key}
use Rattle.std.specs.List.Sorted.{IsStableByKey}
use Rattle.cluster_map.specs.RangeMap.{end_of}
use Rattle.cluster_map.proofs.Finds.{insert_entries-last}
use Rattle.cluster_map.proofs.Bulk.{Ascends-adjacent, same_end, dedup-is_insert_entries}
use Rattle.cluster_map.proofs.slot_range_map.sort_by_end.Goals as goal

-- ranges that ascend are what their inserts leave
pub returns-then-is_sorted_by-clause-put : goal.returns-then-is_sorted_by-clause-put
returns-then-is_sorted_by-clause-put g c =
    let each = c.if-is_sorted_by.ensures.cases (λ x y. nat_lt (end_of x) (end_of y)) (answers_always _ _ _ (λ f a r h k. search rules)) in
    let ascends = rw c.deref.ensures.value at (Ascends-adjacent c.deref.result.now each) in
    sym (insert_entries-last [] c.args.ranges.now.items ascends)

-- and so are the others, when they are sorted
pub returns-clause-put : goal.returns-clause-put
returns-clause-put g c =
    let stable = c.sort_by_key.ensures.stable end_of (answers_always _ _ _ (λ f a r h k. search rules)) in
    let from_reverse : IsStableByKey end_of nat_cmp (reverse c.args.ranges.now.items) c.sort_by_key.new.self.items = rw (← c.reverse.ensures.items) stable in
    let order = IsNonDecreasingBy-from_sort_by_key end_of c.sort_by_key.new.self.items c.in_default.ensures.sorted (λ a r q k. search rules) in
    dedup_same _ same_end _ (λ x y b f x' y' k. search rules) _ _ c.dedup_by_key.ensures.filtered
    ∙ dedup-is_insert_entries c.args.ranges.now.items c.sort_by_key.new.self.items from_reverse order
